-- What the proofs of this crate share.
pub mod Cutting
pub mod FeedTold
pub mod FirstWords
pub mod IdEnds
pub mod JsonTold
pub mod Lacking
pub mod LinesTold
pub mod ReadBack
pub mod Slashed
pub mod Splitting
pub mod Workers
