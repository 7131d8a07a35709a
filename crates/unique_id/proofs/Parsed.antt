-- What a call that answers as the reading does says of the format.
use Rattle.std.proofs.Common.{◌≡◌, ℕ, ◌<◌, ◌≤◌, List, length, drop, Some, IfOk, IfErr, ◌∙◌, Result, Ok, Err, ap, sym, subst, arith}
use Rattle.std.proofs.lemmas.Option.{none-some}
use Rattle.std.specs.List.{All}
use Rattle.unique_id.specs.declared.fault.UidFault.{UidFault}
use Rattle.unique_id.specs.declared.fault.UidFault.TheVariants.{NoMemory}
use Rattle.unique_id.specs.declared.unique_id.Segment.{Segment}
use Rattle.unique_id.specs.Faults.{place_of}
use Rattle.unique_id.specs.Places.{width, StopsAt}
use Rattle.unique_id.specs.Grammar.{IsId, IsWithinLimits}
use Rattle.unique_id.specs.Answers.{Gives}
use Rattle.unique_id.specs.Reading.{id_of}
use Rattle.unique_id.specs.Segments.{IsWhole, IsText}
use Rattle.unique_id.specs.Spelling.{spelling}
use Rattle.unique_id.proofs.Canonical.{spelling_is_id}
use Rattle.unique_id.proofs.TextStops.{text_stops}
use Rattle.unique_id.proofs.Ids.{id_taken, id_again}

pub parsed : (result : Result (List Segment) UidFault) (text : List ℕ) → Gives NoMemory (λ id. id) result (id_of text) → IfOk result (λ id. IsId text id × IsWithinLimits text id)
parsed (Ok id) text h = id_taken text id h
parsed (Err fault) text h = tt

pub parses : (result : Result (List Segment) UidFault) (text : List ℕ) (segments : List Segment) → Gives NoMemory (λ id. id) result (id_of text) → IsId text segments → IsWithinLimits text segments
    → Gives NoMemory (λ id. id) result (Ok segments)
parses result text segments h is limits = subst (λ (r : Result (List Segment) UidFault). Gives NoMemory (λ id. id) result r) (id_again text segments is limits) h

pub spelling_parses : (result : Result (List Segment) UidFault) (text : List ℕ) (segments : List Segment) → Gives NoMemory (λ id. id) result (id_of text)
    → 0 < length segments → length segments ≤ 64 → All IsWhole segments → All IsText segments → length text ≤ 1024 → text ≡ spelling segments → Gives NoMemory (λ id. id) result (Ok segments)
spelling_parses result text segments h some few whole texts short same =
    let is : IsId text segments = subst (λ (t : List ℕ). IsId t segments) (sym same) (spelling_is_id segments some whole texts) in
    let spelled : length (spelling segments) ≤ 1024 = omega (arith, short, ap length same) in
    parses result text segments h is (record { short_text = short; few_segments = few; short_spelling = spelled })

pub placed : (result : Result (List Segment) UidFault) (text : List ℕ) → Gives NoMemory (λ id. id) result (id_of text)
    → IfErr result (λ fault. (place : ℕ) → place_of fault ≡ Some place → StopsAt text place (width fault (drop place text)))
placed (Ok id) text h = tt
placed (Err fault) text h = λ place named. text_stops text fault (h (λ e. none-some place (ap place_of (sym e) ∙ named))) place named
