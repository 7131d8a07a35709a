-- Where the text of an id stops.
use Rattle.std.proofs.Common.{◌≡◌, inl, inr, ℕ, zero, suc, ◌+◌, ◌<◌, ◌≤◌, ◌==◌, ◌||◌, not, nat_lt, cond, Bool, true, false, get_or, List, [], ◌∷◌, ◌++◌, length, take, drop, map, Some, Result, Err, refl, ap, sym, ◌∙◌, subst, arith, append_assoc, append-nil, length-append}
use Rattle.std.proofs.lemmas.List.{take_at, drop_at}
use Rattle.std.proofs.lemmas.List.Splits.{slice_split-cons_no, slice_split-cons_yes, slice_split_at, join_with_byte-slice_split}
use Rattle.std.proofs.lemmas.List.Sums.{prefix_len-le-length}
use Rattle.std.proofs.lemmas.Option.{none-some, same_Some}
use Rattle.std.specs.List.{AllByRecursion, slice_split, onto_first, join_with_byte}
use Rattle.unique_id.specs.declared.fault.UidFault.{UidFault}
use Rattle.unique_id.specs.declared.fault.UidFault.TheVariants.{NoMemory, Empty, NoBracket, NoColon, BadEscape, EmptyPart, TooLong}
use Rattle.unique_id.specs.declared.unique_id.Segment.{Segment}
use Rattle.unique_id.specs.Answers.{◌>>=◌}
use Rattle.unique_id.specs.Faults.{place_of}
use Rattle.unique_id.specs.Grammar.{Written, IsSegment, segment_text, meaning, is_delimiter, IsId}
use Rattle.unique_id.specs.Places.{HasItems, IsWritten, width, StopsAt}
use Rattle.unique_id.specs.Reading.{part_len, segment_at, segments_at, limited, id_of}
use Rattle.unique_id.specs.Spelling.{spelling}
use Rattle.unique_id.proofs.Again.{segment_again, segment_no_slash, split_again}
use Rattle.unique_id.proofs.Pieces.{slash, slash_step, first_split}
use Rattle.unique_id.proofs.SegmentStops.{SegmentStop, segment_stops, either}
use Rattle.unique_id.proofs.Steps.{went, err_ok, same_err}
use Rattle.unique_id.proofs.Takes.{segment_read}

-- texts with a slash behind each
abbrev opened : List (List ℕ) → List ℕ
opened [] = []
opened (t ∷ ts) = t ++ 47 ∷ opened ts

-- the first piece that is no segment, behind those that are
record ListStop (pieces : List (List ℕ)) (place : ℕ) (fault : UidFault) : Type 0 where
  front : List Written
  right : AllByRecursion IsSegment front
  bad : List ℕ
  back : List (List ℕ)
  pieces_are : pieces ≡ map segment_text front ++ bad ∷ back
  fails : segment_at (place + length (opened (map segment_text front))) bad ≡ Err fault

list_stops : (pieces : List (List ℕ)) (done : List Segment) (place : ℕ) (fault : UidFault) → segments_at done place pieces ≡ Err fault → ListStop pieces place fault
list_stops [] done place fault h = err_ok fault done (sym h)
list_stops (piece ∷ rest) done place fault h =
    elim (either (segment_at place piece) (λ s. segments_at (done ++ s ∷ []) (place + (length piece + 1)) rest) fault h) [
      | inl bad ↦
          (let here : place + 0 ≡ place = omega arith in
          record { front = []; right = tt; bad = piece; back = rest; pieces_are = refl; fails = ap (λ n. segment_at n piece) here ∙ bad })
      | inr read ↦
          (let s = segment_read place piece read.0 read.1 in
          let more = list_stops rest (done ++ read.0 ∷ []) (place + (length piece + 1)) fault read.2 in
          let behind = opened (map segment_text more.front) in
          let here : place + length (segment_text s.written ++ 47 ∷ behind) ≡ place + (length piece + 1) + length behind =
          omega (arith, length-append (segment_text s.written) (47 ∷ behind), ap length s.text_is) in
          record {
            front = s.written ∷ more.front;
            right = (s.right, more.right);
            bad = more.bad;
            back = more.back;
            pieces_are = ap (λ l. l ∷ rest) s.text_is ∙ ap (λ l. segment_text s.written ∷ l) more.pieces_are;
            fails = ap (λ n. segment_at n more.bad) here ∙ more.fails;
          })
    ]

-- what stands behind a piece
abbrev behind_piece : List (List ℕ) → List ℕ
behind_piece [] = []
behind_piece (t ∷ ts) = 47 ∷ join_with_byte 47 (t ∷ ts)

join_one : (bad : List ℕ) (back : List (List ℕ)) → join_with_byte 47 (bad ∷ back) ≡ bad ++ behind_piece back
join_one bad [] = sym (append-nil bad)
join_one bad (t ∷ ts) = refl

join_cons : (t : List ℕ) (ts : List (List ℕ)) (bad : List ℕ) (back : List (List ℕ)) → join_with_byte 47 (t ∷ (ts ++ bad ∷ back)) ≡ t ++ 47 ∷ join_with_byte 47 (ts ++ bad ∷ back)
join_cons t [] bad back = refl
join_cons t (u ∷ us) bad back = refl

join_split : (front : List (List ℕ)) (bad : List ℕ) (back : List (List ℕ)) → join_with_byte 47 (front ++ bad ∷ back) ≡ opened front ++ (bad ++ behind_piece back)
join_split [] bad back = join_one bad back
join_split (t ∷ ts) bad back =
    join_cons t ts bad back ∙ ap (λ l. t ++ 47 ∷ l) (join_split ts bad back) ∙ sym (append_assoc t (47 ∷ opened ts) (bad ++ behind_piece back))

-- nothing, or a slash
abbrev Slashed : List ℕ → Type 0
Slashed [] = Unit {0}
Slashed (b ∷ rest) = b ≡ 47

behind_slashed : (back : List (List ℕ)) → Slashed (behind_piece back)
behind_slashed [] = tt
behind_slashed (t ∷ ts) = refl

abbrev NotSlash : ℕ → Type 0
NotSlash b = (b == 47) ≡ false

abbrev Clean : List ℕ → Type 0
Clean xs = AllByRecursion NotSlash xs

onto_clean : (b : ℕ) → NotSlash b → (parts : List (List ℕ)) → AllByRecursion Clean parts → AllByRecursion Clean (onto_first b parts)
onto_clean b h [] all = ((h, tt), tt)
onto_clean b h (part ∷ parts) (one, all) = ((h, one), all)

split_clean_step : (b : ℕ) (text : List ℕ) (t : Bool) → (b == 47) ≡ t → AllByRecursion Clean (slice_split (λ b. b == 47) text) → AllByRecursion Clean (slice_split (λ b. b == 47) (b ∷ text))
split_clean_step b text true e h = subst (AllByRecursion Clean) (sym (slice_split-cons_yes (λ b. b == 47) b text e)) (tt, h)
split_clean_step b text false e h = subst (AllByRecursion Clean) (sym (slice_split-cons_no (λ b. b == 47) b text e)) (onto_clean b e (slice_split (λ b. b == 47) text) h)

split_clean : (text : List ℕ) → AllByRecursion Clean (slice_split (λ b. b == 47) text)
split_clean [] = (tt, tt)
split_clean (b ∷ text) = split_clean_step b text (b == 47) refl (split_clean text)

all_mid : {X : Type 0} (P : X → Type 0) (front : List X) (x : X) (back : List X) → AllByRecursion P (front ++ x ∷ back) → P x
all_mid P [] x back (h, all) = h
all_mid P (f ∷ front) x back (h, all) = all_mid P front x back all

all_left : (P : ℕ → Type 0) (xs ys : List ℕ) → AllByRecursion P (xs ++ ys) → AllByRecursion P xs
all_left P [] ys all = tt
all_left P (x ∷ xs) ys (h, all) = (h, all_left P xs ys all)

all_right : (P : ℕ → Type 0) (xs ys : List ℕ) → AllByRecursion P (xs ++ ys) → AllByRecursion P ys
all_right P [] ys all = all
all_right P (x ∷ xs) ys (h, all) = all_right P xs ys all

-- what stands before the first slash
abbrev first : List ℕ → List ℕ
first text = take (slash text) text

first_step : (x : ℕ) (rest : List ℕ) → NotSlash x → first (x ∷ rest) ≡ x ∷ first rest
first_step x rest h = ap (λ n. take n (x ∷ rest)) (slash_step x rest h)

first_of : (xs rest : List ℕ) → AllByRecursion NotSlash xs → first (xs ++ rest) ≡ xs ++ first rest
first_of [] rest all = refl
first_of (x ∷ xs) rest (h, all) = first_step x (xs ++ rest) h ∙ ap (λ l. x ∷ l) (first_of xs rest all)

nothing_first : (b : ℕ) (r : List ℕ) → take 1 [] ≡ take 1 (b ∷ r) → ⊥
nothing_first b r h = cc

something_first : (b : ℕ) (r : List ℕ) → take 1 (b ∷ r) ≡ take 1 [] → ⊥
something_first b r h = cc

-- what begins as nothing or a slash does has nothing before its first slash
end_first : (T rest : List ℕ) → Slashed T → take 1 rest ≡ take 1 T → first rest ≡ []
end_first [] [] s h = refl
end_first [] (c ∷ rest) s h = absurd (something_first c rest h)
end_first (b ∷ T) [] s h = absurd (nothing_first b T h)
end_first (b ∷ T) (c ∷ rest) s h =
    let same : c ≡ 47 = ap (λ l. get_or l 0 0) h ∙ s in
    subst (λ (n : ℕ). first (n ∷ rest) ≡ []) {x = 47} (sym same) refl

no_more : (n x : ℕ) (l : List ℕ) → take (suc n) [] ≡ x ∷ l → ⊥
no_more n x l h = cc

-- the first bytes of what goes on alike, up to a slash
window : (n : ℕ) (xs T rest : List ℕ) → AllByRecursion NotSlash xs → Slashed T → n ≤ length xs + 1 → take n rest ≡ take n (xs ++ T) → take n (first rest) ≡ take n xs
window zero xs T rest all s few h = refl
window (suc zero) [] T rest all s few h = ap (take 1) (end_first T rest s h)
window (suc (suc n)) [] T rest all s few h = absurd (omega (arith, few))
window (suc n) (x ∷ xs) T [] all s few h = absurd (no_more n x (take n (xs ++ T)) h)
window (suc n) (x ∷ xs) T (c ∷ rest) (clean, all) s few h =
    let same : c ≡ x = ap (λ l. get_or l 0 0) h in
    let clean_c : NotSlash c = subst NotSlash (sym same) clean in
    ap (take (suc n)) (first_step c rest clean_c) ∙ ap (λ m. m ∷ take n (first rest)) same ∙ ap (λ l. x ∷ l) (window n xs T rest all s (omega (arith, few)) (ap (drop 1) h))

part_len_step : (x : ℕ) (xs ys : List ℕ) (t : Bool) → is_delimiter x ≡ t → part_len ys ≡ part_len xs → part_len (x ∷ ys) ≡ part_len (x ∷ xs)
part_len_step x xs ys true e h = rw e refl
part_len_step x xs ys false e h = rw e (omega (arith, h))

part_len_more : (xs T : List ℕ) → Slashed T → part_len (xs ++ T) ≡ part_len xs
part_len_more [] [] s = refl
part_len_more [] (b ∷ T) s = subst (λ (n : ℕ). part_len (n ∷ T) ≡ part_len []) {x = 47} (sym s) refl
part_len_more (x ∷ xs) T s = part_len_step x xs (xs ++ T) (is_delimiter x) refl (part_len_more xs T s)

width_more : (fault : UidFault) (xs T : List ℕ) → Slashed T → width fault (xs ++ T) ≡ width fault xs
width_more NoMemory xs T s = refl
width_more Empty xs T s = refl
width_more (NoBracket place) xs T s = refl
width_more (NoColon place) xs T s = refl
width_more (BadEscape place) xs T s = ap (λ n. n + 1) (part_len_more xs T s)
width_more (EmptyPart place) xs T s = refl
width_more TooLong xs T s = refl

width_few : (fault : UidFault) (xs : List ℕ) → width fault xs ≤ length xs + 1
width_few NoMemory xs = omega arith
width_few Empty xs = omega arith
width_few (NoBracket place) xs = omega arith
width_few (NoColon place) xs = omega arith
width_few (BadEscape place) xs = omega (arith, prefix_len-le-length (λ b. not (is_delimiter b)) xs)
width_few (EmptyPart place) xs = omega arith
width_few TooLong xs = omega arith

-- the segments that are left of a text behind others
record Stripped (text : List ℕ) : Type 0 where
  left : List Written
  all : AllByRecursion IsSegment left
  is : slice_split (λ b. b == 47) text ≡ map segment_text left

no_pieces : (t : List ℕ) (ts : List (List ℕ)) → t ∷ ts ≡ [] → ⊥
no_pieces t ts h = cc

same_tail : (t u : List ℕ) (ts us : List (List ℕ)) → t ∷ ts ≡ u ∷ us → ts ≡ us
same_tail t u ts us h = ap (drop 1) h

same_head : (t u : List ℕ) (ts us : List (List ℕ)) → t ∷ ts ≡ u ∷ us → t ≡ u
same_head t u ts us h = ap (λ l. get_or l 0 []) h

-- the texts behind the first of them are those of segments too
tail_of : (t : List ℕ) (ts : List (List ℕ)) (ws : List Written) → AllByRecursion IsSegment ws → t ∷ ts ≡ map segment_text ws → (left : List Written) × AllByRecursion IsSegment left × (ts ≡ map segment_text left)
tail_of t ts [] all h = absurd (no_pieces t ts h)
tail_of t ts (w ∷ ws) (one, all) h = (ws, all, same_tail t (segment_text w) ts (map segment_text ws) h)

strip : (front ws : List Written) (text : List ℕ) → AllByRecursion IsSegment front → AllByRecursion IsSegment ws
    → slice_split (λ b. b == 47) (opened (map segment_text front) ++ text) ≡ map segment_text ws → Stripped text
strip [] ws text front_all all h = record { left = ws; all = all; is = h }
strip (f ∷ front) ws text (right, front_all) all h =
    let behind = opened (map segment_text front) in
    let one : slice_split (λ b. b == 47) (segment_text f ++ 47 ∷ (behind ++ text)) ≡ segment_text f ∷ slice_split (λ b. b == 47) (behind ++ text) =
    slice_split_at (λ b. b == 47) (segment_text f) 47 (behind ++ text) (segment_no_slash f right) refl in
    let more = tail_of (segment_text f) (slice_split (λ b. b == 47) (behind ++ text)) ws all
    (sym one ∙ ap (slice_split (λ b. b == 47)) (sym (append_assoc (segment_text f) (47 ∷ behind) text)) ∙ h) in
    strip front more.0 text front_all more.1 more.2

-- the pieces of an id are its segments
id_pieces : (text : List ℕ) (ws : List Written) → 0 < length ws → AllByRecursion IsSegment ws → text ≡ join_with_byte 47 (map segment_text ws) → slice_split (λ b. b == 47) text ≡ map segment_text ws
id_pieces text [] some all is = absurd (omega (arith, some))
id_pieces text (w ∷ ws) some all is = ap (slice_split (λ b. b == 47)) is ∙ split_again w ws all

-- the first of them
head_of : (t : List ℕ) (ts : List (List ℕ)) (ws : List Written) → AllByRecursion IsSegment ws → t ∷ ts ≡ map segment_text ws → (w : Written) × IsSegment w × (t ≡ segment_text w)
head_of t ts [] all h = absurd (no_pieces t ts h)
head_of t ts (w ∷ ws) (one, all) h = (w, one, same_head t (segment_text w) ts (map segment_text ws) h)

-- no id goes on as the text does
no_id : (front : List Written) → AllByRecursion IsSegment front → (q : ℕ) (bad : List ℕ) (fault : UidFault) → AllByRecursion NotSlash bad → (stop : SegmentStop q bad fault) (T : List ℕ) → Slashed T
    → (rest : List ℕ) (segments : List Segment) → IsId ((opened (map segment_text front) ++ stop.front) ++ rest) segments → take (width fault (stop.behind ++ T)) rest ≡ take (width fault (stop.behind ++ T)) (stop.behind ++ T) → ⊥
no_id front right q bad fault clean stop T ends rest segments is alike =
    let O = opened (map segment_text front) in
    let V = stop.front ++ rest in
    let parts = subst (AllByRecursion NotSlash) stop.split clean in
    let pieces : slice_split (λ b. b == 47) (O ++ V) ≡ map segment_text is.written =
    id_pieces (O ++ V) is.written is.some_segment is.each_segment (sym (append_assoc O stop.front rest) ∙ is.text_is) in
    let left = strip front is.written V right is.each_segment pieces in
    let head = head_of (first V) _ left.left left.all (sym (first_split V) ∙ left.is) in
    let wide = width_more fault stop.behind T ends in
    let here : take (width fault stop.behind) rest ≡ take (width fault stop.behind) (stop.behind ++ T) = subst (λ (n : ℕ). take n rest ≡ take n (stop.behind ++ T)) wide alike in
    let begun = window (width fault stop.behind) stop.behind T rest (all_right NotSlash stop.front stop.behind parts) ends (width_few fault stop.behind) here in
    let whole : stop.front ++ first rest ≡ segment_text head.0 = sym (first_of stop.front rest (all_left NotSlash stop.front stop.behind parts)) ∙ head.2 in
    err_ok fault (meaning head.0) (sym (stop.dies (first rest) begun) ∙ ap (segment_at q) whole ∙ segment_again head.0 q head.1)

map_more : (ws : List Written) (w : Written) → map segment_text (ws ++ w ∷ []) ≡ map segment_text ws ++ segment_text w ∷ []
map_more [] w = refl
map_more (v ∷ ws) w = ap (λ l. segment_text v ∷ l) (map_more ws w)

part_items : (w : Written) → IsSegment w → HasItems w
part_items w is = (record { some_item = is.kind.some_item; each_item = is.kind.each_item }, record { some_item = is.value.some_item; each_item = is.value.each_item })

all_items : (ws : List Written) (w : Written) → AllByRecursion IsSegment ws → HasItems w → AllByRecursion HasItems (ws ++ w ∷ [])
all_items [] w all h = (h, tt)
all_items (v ∷ ws) w (one, all) h = (part_items v one, all_items ws w all h)

-- what was read can be carried on
goes_on : (front : List Written) → AllByRecursion IsSegment front → (q : ℕ) (bad : List ℕ) (fault : UidFault) (stop : SegmentStop q bad fault)
    → IsWritten ((opened (map segment_text front) ++ stop.front) ++ stop.rest)
goes_on front right q bad fault stop =
    let O = opened (map segment_text front) in
    let text = segment_text stop.written in
    record {
      written = front ++ stop.written ∷ [];
      some_segment = omega (arith, length-append front (stop.written ∷ []));
      each_segment = all_items front stop.written right stop.right;
      text_is =
          append_assoc O stop.front stop.rest ∙ ap (λ l. O ++ l) (stop.begun ∙ sym (append-nil text))
          ∙ sym (join_split (map segment_text front) text []) ∙ ap (join_with_byte 47) (sym (map_more front stop.written));
    }

stops_within : (text P D : List ℕ) (place : ℕ) (fault : UidFault) → text ≡ P ++ D → place ≡ length P → (rest : List ℕ) → IsWritten (P ++ rest)
    → ((rest : List ℕ) (segments : List Segment) → IsId (P ++ rest) segments → take (width fault D) rest ≡ take (width fault D) D → ⊥)
    → StopsAt text place (width fault (drop place text))
stops_within text P D place fault is len rest before here =
    let front : take place text ≡ P = ap (take place) is ∙ take_at P D place (sym len) in
    let behind : drop place text ≡ D = ap (drop place) is ∙ drop_at P D place (sym len) in
    record {
      inside = omega (arith, len, ap length is, length-append P D);
      before = (rest, subst (λ (l : List ℕ). IsWritten (l ++ rest)) (sym front) before);
      here = λ more segments id alike.
          here more segments (subst (λ (l : List ℕ). IsId (l ++ more) segments) front id)
          (subst (λ (l : List ℕ). take (width fault l) more ≡ take (width fault l) l) behind alike);
    }

list_placed : (text : List ℕ) (fault : UidFault) → segments_at [] 0 (slice_split (λ b. b == 47) text) ≡ Err fault → (place : ℕ) → place_of fault ≡ Some place → StopsAt text place (width fault (drop place text))
list_placed text fault h place named =
    let at = list_stops (slice_split (λ b. b == 47) text) [] 0 fault h in
    let O = opened (map segment_text at.front) in
    let stop = segment_stops (0 + length O) at.bad fault at.fails in
    let T = behind_piece at.back in
    let clean = all_mid Clean (map segment_text at.front) at.bad at.back (subst (AllByRecursion Clean) at.pieces_are (split_clean text)) in
    let joined : text ≡ O ++ (at.bad ++ T) = sym (join_with_byte-slice_split 47 text) ∙ ap (join_with_byte 47) at.pieces_are ∙ join_split (map segment_text at.front) at.bad at.back in
    let whole : text ≡ (O ++ stop.front) ++ (stop.behind ++ T) =
    joined ∙ ap (λ l. O ++ (l ++ T)) stop.split ∙ ap (λ l. O ++ l) (append_assoc stop.front stop.behind T) ∙ sym (append_assoc O stop.front (stop.behind ++ T)) in
    let same : place ≡ 0 + length O + length stop.front = same_Some place (0 + length O + length stop.front) (sym named ∙ stop.place) in
    stops_within text (O ++ stop.front) (stop.behind ++ T) place fault whole (omega (arith, same, length-append O stop.front)) stop.rest
    (goes_on at.front at.right (0 + length O) at.bad fault stop)
    (no_id at.front at.right (0 + length O) at.bad fault clean stop T (behind_slashed at.back))

limit_named : {B : Type 0} (segments : List Segment) (fault : UidFault) (place : ℕ) → limited segments ≡ Err fault → place_of fault ≡ Some place → B
limit_named segments fault place h named =
    elim (went (nat_lt 64 (length segments) || nat_lt 1024 (length (spelling segments))) _ _ (Err fault) h) [
      | inl bad ↦ absurd (none-some place (ap place_of (same_err {A = List Segment} TooLong fault bad.1) ∙ named))
      | inr good ↦ err_ok fault segments (sym good.1)
    ]

-- a fault with a place stands where the text stops
pub text_stops : (text : List ℕ) (fault : UidFault) → id_of text ≡ Err fault → (place : ℕ) → place_of fault ≡ Some place → StopsAt text place (width fault (drop place text))
unfolding id_of
text_stops text fault h place named =
    let all : Result (List Segment) UidFault = segments_at [] 0 (slice_split (λ b. b == 47) text) >>= limited in
    elim (went (length text == 0) (Err Empty) (cond (nat_lt 1024 (length text)) (Err TooLong) all) (Err fault) h) [
      | inl none ↦ absurd (none-some place (ap place_of (same_err {A = List Segment} Empty fault none.1) ∙ named))
      | inr some ↦
          elim (went (nat_lt 1024 (length text)) (Err TooLong) all (Err fault) some.1) [
            | inl long ↦ absurd (none-some place (ap place_of (same_err {A = List Segment} TooLong fault long.1) ∙ named))
            | inr short ↦
                elim (either (segments_at [] 0 (slice_split (λ b. b == 47) text)) limited fault short.1) [
                  | inl bad ↦ list_placed text fault bad place named
                  | inr read ↦ limit_named read.0 fault place read.2 named
                ]
          ]
    ]
