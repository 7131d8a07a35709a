-- Lemmas on dates from 1970 on, on how a text grows, and on what an `ok` gives.
mod Late
mod Growing
mod Given
