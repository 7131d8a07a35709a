-- What is written stands behind what was there.
use Rattle.std.proofs.Common.{◌≡◌, ◌∙◌, ◌++◌, ◌+◌, ℕ, Bool, true, false, List, [], ◌∷◌, length, take, Option, refl, sym, ap, subst, append-nil}
use Rattle.std.proofs.Math.Seq.{take-append-add, take-length}
use Rattle.std.proofs.lemmas.List.{length-append}
use Rattle.std.proofs.lemmas.Grind.{flat_map-append}
use Rattle.std.specs.List.{flat_map}
use Rattle.std.specs.Io.KnownBytes.{Appends, Keeps}
use Rattle.std.proofs.KnownBytes.{Appends-kept, Appends-nil, Appends-trans}
use Rattle.run_results.specs.declared.to_writer.WriteFault.{WriteFault}
use Rattle.live.specs.Written.{AreWritten, IsSent}

-- all of a text was written, and then nothing more
pub sent_whole : (a b c : Option (List ℕ)) (text bytes : List ℕ) (all : Bool) → bytes ≡ text → Appends a b bytes → Keeps b c → IsSent all a c text
sent_whole a b c text bytes true same is keeps = Appends-kept a b c text (subst (Appends a b) same is) keeps
sent_whole a b c text bytes false same is keeps = (length text, subst (Appends a c) (sym (take-length text)) (Appends-kept a b c text (subst (Appends a b) same is) keeps))

-- a part was written
pub sent_part : (a b : Option (List ℕ)) (text bytes : List ℕ) (fault : WriteFault) → bytes ≡ text → Appends a b (take fault.sent bytes) → IsSent false a b text
sent_part a b text bytes fault same is = (fault.sent, subst (λ (l : List ℕ). Appends a b (take fault.sent l)) same is)

module _ {X : Type 0} (text_of : X → List ℕ) where
  -- nothing was written
  pub none_written : (a : Option (List ℕ)) (done : Bool) → AreWritten text_of [] a a done
  none_written a done = record { sent = 0; whole = λ going. refl; written = Appends-nil a }

  one_by : (a b : Option (List ℕ)) (all done : Bool) (x : X) → (all ≡ false → done ≡ true) → IsSent all a b (text_of x) → AreWritten text_of (x ∷ []) a b done
  one_by a b true done x ends sent = record {
    sent = length (flat_map text_of (x ∷ []));
    whole = λ going. refl;
    written = subst (Appends a b) (sym (append-nil (text_of x)) ∙ sym (take-length (flat_map text_of (x ∷ [])))) sent;
  }
  one_by a b false done x ends sent = record {
    sent = sent.0;
    whole = λ going. cc (ends refl, going);
    written = subst (λ (l : List ℕ). Appends a b (take sent.0 l)) (sym (append-nil (text_of x))) sent.1;
  }

  -- one text was written
  pub one_written : (a b : Option (List ℕ)) (all done : Bool) (x : X) (text : List ℕ) → text ≡ text_of x → (all ≡ false → done ≡ true) → IsSent all a b text → AreWritten text_of (x ∷ []) a b done
  one_written a b all done x text is ends sent = one_by a b all done x ends (subst (IsSent all a b) is sent)

  -- what was written is written, also where no more is written
  pub written_still : (xs : List X) (a b : Option (List ℕ)) (was now : Bool) → (now ≡ false → was ≡ false) → AreWritten text_of xs a b was → AreWritten text_of xs a b now
  written_still xs a b was now back is = record { sent = is.sent; whole = λ going. is.whole (back going); written = is.written }

  -- first these, and then those
  pub written_behind : (xs ys : List X) (a b c : Option (List ℕ)) (done : Bool) → AreWritten text_of xs a b false → AreWritten text_of ys b c done → AreWritten text_of (xs ++ ys) a c done
  written_behind xs ys a b c done first then =
      let front = flat_map text_of xs in
      let back = flat_map text_of ys in
      let joined : flat_map text_of (xs ++ ys) ≡ front ++ back = flat_map-append text_of xs ys in
      let whole : take first.sent front ≡ front = ap (λ (n : ℕ). take n front) (first.whole refl) ∙ take-length front in
      record {
        sent = length front + then.sent;
        whole = λ going. ap (λ (n : ℕ). length front + n) (then.whole going) ∙ sym (length-append front back) ∙ sym (ap length joined);
        written =
            subst (Appends a c) (ap (λ (l : List ℕ). l ++ take then.sent back) whole ∙ sym (take-append-add front back then.sent) ∙ sym (ap (take (length front + then.sent)) joined))
            (Appends-trans a b c (take first.sent front) (take then.sent back) first.written then.written);
      }
