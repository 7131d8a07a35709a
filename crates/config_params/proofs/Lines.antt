-- The lines that an iterator still has to give, read one by one.
use Rattle.std.proofs.Common.{◌≡◌, ◌≢◌, ℕ, ◌+◌, ◌≤◌, List, [], ◌∷◌, length, fold, Bool, true, false, Option, None, Some, Result, Ok, Err, Bor, refl, ap, sym, subst, ◌∙◌, arith}
use Rattle.std.specs.Prelude.{◌==◌, if◌then◌else◌}
use Rattle.std.specs.declared.str.Lines.{Lines}
use Rattle.std.specs.Iterator.{AlwaysYields}
use Rattle.std.specs.List.{slice_split}
use Rattle.std.specs.Str.Iter.{lines_steps, lines_rest}
use Rattle.std.specs.Str.Lines.{lines, lines_of_parts}
use Rattle.std.proofs.lemmas.Iterator.Splits.{YieldsList-from_lines}
use Rattle.std.proofs.lemmas.List.Sums.{fold-append, count_by-le-length}
use Rattle.std.proofs.lemmas.List.Splits.{length-slice_split}
use Rattle.config_params.specs.declared.fault.ParamsFault.{ParamsFault}
use Rattle.config_params.specs.declared.fault.ParamsFault.TheVariants.{NoMemory, NoEquals, EmptyKey}
use Rattle.config_params.specs.Pairs.{Pair, key_of, value_of, pair_of, said, says_nothing, property_of}
use Rattle.config_params.specs.Properties.{fault_or, fault_from, pairs_said, pairs_of_lines}
use Rattle.config_params.specs.Tables.{with_pair}

-- a text's iterator still has all its lines to give
pub all_left : (s : Lines) (text : List ℕ) → lines_rest s ≡ text → AlwaysYields lines_steps (λ x. x.now) s (lines text)
all_left s text is = (YieldsList-from_lines text is).runs

-- one line is given, and the others are left
pub one_given : (s t : Lines) (x : Bor (List ℕ)) (ys : List (List ℕ)) → AlwaysYields lines_steps (λ x. x.now) s ys → lines_steps s (Some x) t
    → (zs : List (List ℕ)) × (ys ≡ x.now ∷ zs) × AlwaysYields lines_steps (λ x. x.now) t zs
one_given s t x [] runs step = absurd (runs x t step)
one_given s t x (y ∷ ys) runs step = (ys, ap (λ l. l ∷ ys) (sym (runs.1 x t step).0), (runs.1 x t step).1)

pub one_fewer : (y : List ℕ) (ys zs : List (List ℕ)) → ys ≡ y ∷ zs → length ys ≡ 1 + length zs
one_fewer y ys zs is = omega (arith, ap length is)

-- none is left
pub none_left : (s t : Lines) (ys : List (List ℕ)) → AlwaysYields lines_steps (λ x. x.now) s ys → lines_steps s None t → ys ≡ []
none_left s t [] runs step = refl
none_left s t (y ∷ ys) runs step = absurd (runs.0 t step)

-- there are not many more lines than bytes
parts_few : (parts : List (List ℕ)) → length (lines_of_parts parts) ≤ length parts
parts_few [] = omega arith
parts_few (x ∷ []) = by (length x == 0)
  where
    by : (b : Bool) → length (if b then [] else x ∷ []) ≤ 1
    by true = omega arith
    by false = omega arith
parts_few (x ∷ y ∷ more) = omega (arith, parts_few (y ∷ more))

pub lines_few : (text : List ℕ) → length (lines text) ≤ length text + 1
lines_few text = omega (arith, parts_few (slice_split (λ b. b == 10) text), length-slice_split (λ b. b == 10) text, count_by-le-length (λ b. b == 10) text)

-- a faulty line, and one that is not
pub faulty : (number : ℕ) (line : List ℕ) (rest : List (List ℕ)) (fault : ParamsFault) (whole : Option ParamsFault) → Err fault ≡ property_of number line
    → fault_from number (line ∷ rest) ≡ whole → Some fault ≡ whole
faulty number line rest fault whole is h = ap (λ r. fault_or r (fault_from (number + 1) rest)) is ∙ h

pub passed : (number : ℕ) (line : List ℕ) (rest : List (List ℕ)) (pair : Option Pair) (whole : Option ParamsFault) → Ok pair ≡ property_of number line
    → fault_from number (line ∷ rest) ≡ whole → fault_from (number + 1) rest ≡ whole
passed number line rest pair whole is h = ap (λ r. fault_or r (fault_from (number + 1) rest)) is ∙ h

-- the pairs of one line, and of the others
pub folded : (table : List Pair) (line : List ℕ) (rest : List (List ℕ)) → fold with_pair table (pairs_of_lines (line ∷ rest)) ≡ fold with_pair (fold with_pair table (pairs_said (property_of 1 line))) (pairs_of_lines rest)
folded table line rest = fold-append with_pair table (pairs_said (property_of 1 line)) (pairs_of_lines rest)

-- want of memory is no property of a text
abbrev is_read : {X : Type 0} → Result X ParamsFault → Type 0
is_read (Ok x) = Unit {0}
is_read (Err NoMemory) = ⊥
is_read (Err (NoEquals n)) = Unit {0}
is_read (Err (EmptyKey n)) = Unit {0}

pair_read : (a b : Bool) (number : ℕ) (pair : Pair) → is_read {X = Pair} (if a then Err (NoEquals number) else (if b then Err (EmptyKey number) else Ok pair))
pair_read true b number pair = tt
pair_read false true number pair = tt
pair_read false false number pair = tt

said_read : (r : Result Pair ParamsFault) → is_read r → is_read (said r)
said_read (Ok pair) h = tt
said_read (Err NoMemory) h = h
said_read (Err (NoEquals n)) h = tt
said_read (Err (EmptyKey n)) h = tt

line_read : (b : Bool) (r : Result (Option Pair) ParamsFault) → is_read r → is_read (if b then Ok None else r)
line_read true r h = tt
line_read false r h = h

property_read : (number : ℕ) (line : List ℕ) → is_read (property_of number line)
property_read number line = line_read (says_nothing line) (said (pair_of number line)) (said_read (pair_of number line) (pair_read _ _ number (key_of line, value_of line)))

abbrev is_fault : Option ParamsFault → Type 0
is_fault None = Unit {0}
is_fault (Some NoMemory) = ⊥
is_fault (Some (NoEquals n)) = Unit {0}
is_fault (Some (EmptyKey n)) = Unit {0}

fault_read : {X : Type 0} (r : Result X ParamsFault) (later : Option ParamsFault) → is_read r → is_fault later → is_fault (fault_or r later)
fault_read (Ok x) later h k = k
fault_read (Err NoMemory) later h k = h
fault_read (Err (NoEquals n)) later h k = tt
fault_read (Err (EmptyKey n)) later h k = tt

faults_read : (number : ℕ) (texts : List (List ℕ)) → is_fault (fault_from number texts)
faults_read number [] = tt
faults_read number (line ∷ rest) = fault_read (property_of number line) (fault_from (number + 1) rest) (property_read number line) (faults_read (number + 1) rest)

pub never : (number : ℕ) (texts : List (List ℕ)) → Some NoMemory ≢ fault_from number texts
never number texts e = subst is_fault (sym e) (faults_read number texts)
