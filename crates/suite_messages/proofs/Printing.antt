-- How a text without control characters grows.
use Rattle.std.proofs.Common.{◌≡◌, ℕ, Bool, true, false, List, [], ◌∷◌, ◌++◌, ◌&&◌, ap, refl, sym, ◌∙◌, append-nil}
use Rattle.std.specs.Prelude.{encode_utf8, encode_utf8_all}
use Rattle.std.specs.List.{list_all}
use Rattle.std.proofs.lemmas.Str.{encodes-append}
use Rattle.suite_messages.specs.Printable.{HasNoControl, is_of_lines}

-- there is none where there is nothing
pub nothing : HasNoControl []
nothing = record { chars = []; are = refl; printable = refl }

one_more : (cs : List ℕ) (c : ℕ) → is_of_lines c ≡ true → list_all is_of_lines cs ≡ true → list_all is_of_lines (cs ++ c ∷ []) ≡ true
one_more [] c is are = ap (λ b. b && true) is
one_more (d ∷ cs) c is are = both (is_of_lines d) (list_all is_of_lines cs) (list_all is_of_lines (cs ++ c ∷ [])) (one_more cs c is) are
  where
    both : (a b later : Bool) → (b ≡ true → later ≡ true) → (a && b) ≡ true → (a && later) ≡ true
    both true b later then h = then h
    both false b later then h = h

-- nor behind one character more that is none
pub grows : (old new : List ℕ) (c : ℕ) → is_of_lines c ≡ true → new ≡ old ++ encode_utf8 c → HasNoControl old → HasNoControl new
grows old new c is same has = record {
  chars = has.chars ++ c ∷ [];
  are = same ∙ ap (λ (l : List ℕ). l ++ encode_utf8 c) has.are ∙ ap (λ (l : List ℕ). encode_utf8_all has.chars ++ l) (sym (append-nil (encode_utf8 c))) ∙ sym (encodes-append has.chars (c ∷ []));
  printable = one_more has.chars c is has.printable;
}
