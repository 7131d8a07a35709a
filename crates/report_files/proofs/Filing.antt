-- What is done with the files of reports, one after the other.
use Rattle.std.proofs.Common.{◌≡◌, ◌∙◌, ℕ, suc, zero, ◌+◌, ◌<◌, ◌≤◌, ◌⊎◌, inl, inr, Bool, true, false, List, [], ◌∷◌, ◌++◌, length, take, map, Option, Some, None, get_or, arith, refl, sym, ap, ap₂, subst, append_assoc, append-nil}
use Rattle.std.specs.Option.{option_or}
use Rattle.std.proofs.lemmas.Bool.{false≢true}
use Rattle.std.proofs.lemmas.List.{get_or_default, length-append, length-map, length-take-le, take_more}
use Rattle.launch_options.specs.ReportTexts.{parts_of}
use Rattle.launch_options.specs.declared.fault.CutCause.{CutCause}
use Rattle.launch_options.specs.declared.fault.LaunchFault.{LaunchFault}
use Rattle.launch_options.specs.declared.fault.LaunchFault.TheVariants.{BadReport, NoMemory}
use Rattle.launch_options.specs.declared.reports.ReportAsked.{ReportAsked}
use Rattle.report_files.specs.Deeds.{Deed, Does}
use Rattle.report_files.specs.Deeds.Deed.{Opened, Kept, NotKept, GivenUp}
use Rattle.report_files.specs.FiledReports.{Wanted, AreEnded, AreOpened, IsEnded, IsOpened, first_lost, IsUnopened, OpensNext, givings_up, is_kept, is_whole, lost_or, openings}
use Rattle.report_files.specs.declared.report.Outcome.{Outcome}
use Rattle.report_files.specs.declared.report.Outcome.TheVariants.{Cut, Waiting}
use Rattle.report_files.specs.declared.report.Report.{Report}

-- what is done behind what is done
pub does_more : (a b c : Option (List Deed)) (xs ys : List Deed) → Does a b xs → Does b c ys → Does a c (xs ++ ys)
does_more None b c xs ys first more = tt
does_more (Some a) None c xs ys first more = absurd first
does_more (Some a) (Some b) None xs ys first more = absurd more
does_more (Some a) (Some b) (Some c) xs ys first more = more ∙ ap (λ (l : List Deed). l ++ ys) first ∙ append_assoc a xs ys

-- who does nothing does nothing
pub does_nothing : (a : Option (List Deed)) → Does a a []
does_nothing None = tt
does_nothing (Some a) = sym (append-nil a)

-- a file for the next report
pub openings_more : (ws : List ReportAsked) (i : ℕ) (a : ReportAsked) → i < length ws → a ≡ get_or ws i a → openings (take (suc i) (map parts_of ws)) ≡ openings (take i (map parts_of ws)) ++ Opened a.file.now ∷ []
openings_more [] i a lt here = absurd (omega (arith, lt))
openings_more (w ∷ ws) zero a lt here = ap (λ (x : ReportAsked). Opened x.file.now ∷ []) (sym here)
openings_more (w ∷ ws) (suc i) a lt here = ap (λ (l : List Deed). Opened w.file.now ∷ l) (openings_more ws i a (omega (arith, lt)) here)

lost_first : (b : Bool) (n : ℕ) (ds : List Deed) (d : Deed) → first_lost (n + 1) (ds ++ d ∷ []) ≡ option_or (first_lost (n + 1) ds) (lost_or (is_kept d) (n + 1 + length ds) None)
    → lost_or b n (first_lost (n + 1) (ds ++ d ∷ [])) ≡ option_or (lost_or b n (first_lost (n + 1) ds)) (lost_or (is_kept d) (n + suc (length ds)) None)
lost_first true n ds d later = later ∙ ap (λ (m : ℕ). option_or (first_lost (n + 1) ds) (lost_or (is_kept d) m None)) (let e : n + 1 + length ds ≡ n + suc (length ds) = omega arith in e)
lost_first false n ds d later = refl

-- the first that is not kept, with one more behind all
pub lost_more : (n : ℕ) (ds : List Deed) (d : Deed) → first_lost n (ds ++ d ∷ []) ≡ option_or (first_lost n ds) (lost_or (is_kept d) (n + length ds) None)
lost_more n [] d = ap (λ (m : ℕ). lost_or (is_kept d) m None) (let e : n ≡ n + 0 = omega arith in e)
lost_more n (e ∷ ds) d = lost_first (is_kept e) n ds d (lost_more (n + 1) ds d)

-- of a report that is not written whole
pub unwhole : (o : Outcome) → (o ≡ Waiting) ⊎ ((cause : CutCause) × (o ≡ Cut cause)) → is_whole o ≡ false
unwhole o (inl is) = ap is_whole is
unwhole o (inr is) = ap is_whole is.1

module _ {F : Type 0} (contents : F → Option (List ℕ)) where
  pub opened_more : (rs : List (Report F)) (ws : List ReportAsked) (a : ReportAsked) (r : Report F) → AreOpened contents rs (map parts_of ws) → length rs < length ws → a ≡ get_or ws (length rs) a → IsOpened contents (parts_of a) r
      → AreOpened contents (rs ++ r ∷ []) (map parts_of ws)
  opened_more [] [] a r are lt here is = absurd (omega (arith, lt))
  opened_more [] (w ∷ ws) a r are lt here is = (subst (λ (x : ReportAsked). IsOpened contents (parts_of x) r) here is, tt)
  opened_more (x ∷ rs) [] a r are lt here is = absurd are
  opened_more (x ∷ rs) (w ∷ ws) a r are lt here is = (are.0, opened_more rs ws a r are.1 (omega (arith, lt)) here is)

  pub ended_more : (rs : List (Report F)) (ws : List ReportAsked) (ds : List Deed) (a : ReportAsked) (r : Report F) (d : Deed) → AreEnded contents rs (map parts_of ws) ds → length rs < length ws → a ≡ get_or ws (length rs) a
      → IsEnded contents (parts_of a) r d → AreEnded contents (rs ++ r ∷ []) (map parts_of ws) (ds ++ d ∷ [])
  ended_more [] [] ds a r d are lt here is = absurd (omega (arith, lt))
  ended_more [] (w ∷ ws) [] a r d are lt here is = (subst (λ (x : ReportAsked). IsEnded contents (parts_of x) r d) here is, tt)
  ended_more [] (w ∷ ws) (e ∷ ds) a r d are lt here is = absurd are
  ended_more (x ∷ rs) [] ds a r d are lt here is = absurd are
  ended_more (x ∷ rs) (w ∷ ws) [] a r d are lt here is = absurd are
  ended_more (x ∷ rs) (w ∷ ws) (e ∷ ds) a r d are lt here is = (are.0, ended_more rs ws ds a r d are.1 (omega (arith, lt)) here is)

  pub ended_many : (rs : List (Report F)) (ws : List Wanted) (ds : List Deed) → AreEnded contents rs ws ds → length ds ≡ length rs
  ended_many [] ws [] are = refl
  ended_many [] ws (d ∷ ds) are = absurd are
  ended_many (r ∷ rs) [] ds are = absurd are
  ended_many (r ∷ rs) (w ∷ ws) [] are = absurd are
  ended_many (r ∷ rs) (w ∷ ws) (d ∷ ds) are = ap suc (ended_many rs ws ds are.1)

  -- nothing was written of a report that was only opened
  waiting : (r : Report F) → r.outcome ≡ Waiting → is_whole r.outcome ≡ true → ⊥
  waiting r is whole = false≢true (sym (ap is_whole is) ∙ whole)

  given_up : (w : Wanted) (r : Report F) (d : Deed) → r.outcome ≡ Waiting → IsEnded contents w r d → d ≡ GivenUp w.1
  given_up w r (Opened name) is ended = absurd ended
  given_up w r (Kept name bytes) is ended = absurd (waiting r is ended.1)
  given_up w r (NotKept name) is ended = absurd (waiting r is ended.1)
  given_up w r (GivenUp name) is ended = ap GivenUp ended.0

  -- so all that were only opened are given up
  pub all_given_up : (rs : List (Report F)) (ws : List Wanted) (ds : List Deed) → AreOpened contents rs ws → AreEnded contents rs ws ds → ds ≡ givings_up (take (length rs) ws)
  all_given_up [] [] [] opened ended = refl
  all_given_up [] (w ∷ ws) [] opened ended = refl
  all_given_up [] ws (d ∷ ds) opened ended = absurd ended
  all_given_up (r ∷ rs) [] ds opened ended = absurd opened
  all_given_up (r ∷ rs) (w ∷ ws) [] opened ended = absurd ended
  all_given_up (r ∷ rs) (w ∷ ws) (d ∷ ds) opened ended = ap₂ (λ (x : Deed) (l : List Deed). x ∷ l) (given_up w r d opened.0.outcome ended.0) (all_given_up rs ws ds opened.1 ended.1)

-- the facts that a loop has of the reports so far, and of what was done with their files
module _ {F K : Type 0} (contents : F → Option (List ℕ)) (deeds : K → Option (List Deed)) (ws : List ReportAsked) where
  -- the first i are ended so
  abbrev pub AreEndedSo : K → K → List (Report F) → ℕ → Option ℕ → Type 0
  AreEndedSo was now rs i lost = (ends : List Deed) × Does (deeds was) (deeds now) ends × AreEnded contents (take i rs) (map parts_of ws) ends × (lost ≡ first_lost 1 ends)

  pub ended_next : (was now next : K) (rs : List (Report F)) (i : ℕ) (lost : Option ℕ) (a : ReportAsked) (r : Report F) (kept : Bool) (later : Option ℕ) → AreEndedSo was now rs i lost → i < length rs → i < length ws → a ≡ get_or ws i a → r ≡ get_or rs i r
      → ((d : Deed) × Does (deeds now) (deeds next) (d ∷ []) × IsEnded contents (parts_of a) r d × (kept ≡ is_kept d)) → later ≡ option_or lost (lost_or kept (i + 1) None) → AreEndedSo was next rs (i + 1) later
  ended_next was now next rs i lost a r kept later so inside within asked here one is =
      let many : length (take i rs) ≡ i = length-take-le i rs (omega (arith, inside)) in
      let d = one.0 in
      let all : AreEnded contents (take i rs ++ r ∷ []) (map parts_of ws) (so.0 ++ d ∷ []) = ended_more contents (take i rs) ws so.0 a r d so.2 (omega (arith, many, within)) (subst (λ (n : ℕ). a ≡ get_or ws n a) (sym many) asked) one.2 in
      let front : take (i + 1) rs ≡ take i rs ++ r ∷ [] = take_more rs i r inside ∙ ap (λ (x : Report F). take i rs ++ x ∷ []) (sym here) in
      let count : length so.0 ≡ i = ended_many contents (take i rs) (map parts_of ws) so.0 so.2 ∙ many in
      let first : first_lost 1 (so.0 ++ d ∷ []) ≡ option_or lost (lost_or kept (i + 1) None) =
      lost_more 1 so.0 d ∙ ap (λ (o : Option ℕ). option_or o (lost_or (is_kept d) (1 + length so.0) None)) (sym so.3) ∙ ap (λ (b : Bool). option_or lost (lost_or b (1 + length so.0) None)) (sym one.3)
      ∙ ap (λ (n : ℕ). option_or lost (lost_or kept n None)) (let e : 1 + length so.0 ≡ i + 1 = omega (arith, count) in e) in
      (so.0 ++ d ∷ [], does_more (deeds was) (deeds now) (deeds next) so.0 (d ∷ []) so.1 one.1, subst (λ (l : List (Report F)). AreEnded contents l (map parts_of ws) (so.0 ++ d ∷ [])) (sym front) all, is ∙ sym first)

  -- one report more is ended, that which stands at this place
  pub ended_at : (was now next : K) (rs : List (Report F)) (i : ℕ) (lost : Option ℕ) (d : ReportAsked) (r : Report F) (kept : Bool) (later : Option ℕ) → AreEndedSo was now rs i lost → i < length rs → i < length ws → r ≡ get_or rs i r
      → ((deed : Deed) × Does (deeds now) (deeds next) (deed ∷ []) × IsEnded contents (parts_of (get_or ws i d)) r deed × (kept ≡ is_kept deed)) → later ≡ option_or lost (lost_or kept (i + 1) None) → AreEndedSo was next rs (i + 1) later
  ended_at was now next rs i lost d r kept later so inside within here one is = ended_next was now next rs i lost (get_or ws i d) r kept later so inside within (get_or_default ws i d (get_or ws i d) within) here one is

module _ {F : Type 0} (contents : F → Option (List ℕ)) (ws : List ReportAsked) (was : Option (List Deed)) where
  pub opened_few : (rs : List (Report F)) (wanted : List Wanted) → AreOpened contents rs wanted → length rs ≤ length wanted
  opened_few [] wanted are = omega arith
  opened_few (r ∷ rs) [] are = absurd are
  opened_few (r ∷ rs) (w ∷ wanted) are = let few : length rs ≤ length wanted = opened_few rs wanted are.1 in omega (arith, few)

  module _ (old new : List (Report F)) (before after : Option (List Deed)) (i : ℕ) (a : ReportAsked) (many : length old ≡ i) (are : AreOpened contents old (map parts_of ws)) (so : Does was before (openings (take i (map parts_of ws)))) where
    -- one more is opened
    pub opened_next : (b : Bool) → b ≡ true → OpensNext contents (parts_of a) old new before after b → i < length ws → a ≡ get_or ws i a → (length new ≡ i + 1) × AreOpened contents new (map parts_of ws) × Does was after (openings (take (i + 1) (map parts_of ws)))
    opened_next true is_so next inside here =
        let r = next.0 in
        let on : i + 1 ≡ suc i = omega arith in
        let all : AreOpened contents (old ++ r ∷ []) (map parts_of ws) = opened_more contents old ws a r are (omega (arith, many, inside)) (subst (λ (n : ℕ). a ≡ get_or ws n a) (sym many) here) next.1 in
        let deeds : openings (take (i + 1) (map parts_of ws)) ≡ openings (take i (map parts_of ws)) ++ Opened a.file.now ∷ [] = ap (λ (n : ℕ). openings (take n (map parts_of ws))) on ∙ openings_more ws i a inside here in (
          ap length next.2 ∙ length-append old (r ∷ []) ∙ ap (λ (n : ℕ). n + 1) many,
          subst (λ (l : List (Report F)). AreOpened contents l (map parts_of ws)) (sym next.2) all,
          subst (λ (ds : List Deed). Does was after ds) (sym deeds) (does_more was before after (openings (take i (map parts_of ws))) (Opened a.file.now ∷ []) so next.3),
        )
    opened_next false is_so next inside here = absurd (false≢true is_so)

    -- or it could not be
    pub opened_no_more : (b : Bool) → b ≡ false → OpensNext contents (parts_of a) old new before after b → (length new ≡ i) × AreOpened contents new (map parts_of ws) × Does was after (openings (take (length new) (map parts_of ws)))
    opened_no_more true is_so next = absurd (false≢true (sym is_so))
    opened_no_more false is_so next =
        let same : length new ≡ i = ap length next.0 ∙ many in
        let deeds : openings (take i (map parts_of ws)) ++ [] ≡ openings (take (length new) (map parts_of ws)) = append-nil (openings (take i (map parts_of ws))) ∙ ap (λ (n : ℕ). openings (take n (map parts_of ws))) (sym same) in (
          same,
          subst (λ (l : List (Report F)). AreOpened contents l (map parts_of ws)) (sym next.0) are,
          subst (λ (ds : List Deed). Does was after ds) deeds (does_more was before after (openings (take i (map parts_of ws))) [] so next.1),
        )

  -- one report more is opened, that which stands at this place
  pub opened_at : (old new : List (Report F)) (before after : Option (List Deed)) (i : ℕ) (d : ReportAsked) → length old ≡ i → AreOpened contents old (map parts_of ws) → Does was before (openings (take i (map parts_of ws))) → (b : Bool) → b ≡ true → OpensNext contents (parts_of (get_or ws i d)) old new before after b
      → i < length ws → (length new ≡ i + 1) × AreOpened contents new (map parts_of ws) × Does was after (openings (take (i + 1) (map parts_of ws)))
  opened_at old new before after i d many are so b is_so next inside = opened_next old new before after i (get_or ws i d) many are so b is_so next inside (get_or_default ws i d (get_or ws i d) inside)

  pub opened_none_at : (old new : List (Report F)) (before after : Option (List Deed)) (i : ℕ) (d : ReportAsked) → length old ≡ i → AreOpened contents old (map parts_of ws) → Does was before (openings (take i (map parts_of ws))) → (b : Bool) → b ≡ false → OpensNext contents (parts_of (get_or ws i d)) old new before after b
      → (length new ≡ i) × AreOpened contents new (map parts_of ws) × Does was after (openings (take (length new) (map parts_of ws)))
  opened_none_at old new before after i d many are so b is_so next = opened_no_more old new before after i (get_or ws i d) many are so b is_so next

  -- of reports of which one could not be opened, those before it are given up
  pub unopened : (rs : List (Report F)) (between after : Option (List Deed)) (ds : List Deed) (n : ℕ) → AreOpened contents rs (map parts_of ws) → Does was between (openings (take (length rs) (map parts_of ws))) → length rs < length ws → n ≡ length rs → Does between after ds → AreEnded contents rs (map parts_of ws) ds
      → IsUnopened (map parts_of ws) was after (BadReport (n + 1))
  unopened rs between after ds n are opening few same ending ended =
      let up : ds ≡ givings_up (take n (map parts_of ws)) = all_given_up contents rs (map parts_of ws) ds are ended ∙ ap (λ (m : ℕ). givings_up (take m (map parts_of ws))) (sym same) in
      let first : Does was between (openings (take n (map parts_of ws))) = subst (λ (m : ℕ). Does was between (openings (take m (map parts_of ws)))) (sym same) opening in (
        n,
        refl,
        subst (λ (m : ℕ). n < m) (sym (length-map ws parts_of)) (omega (arith, few, same)),
        does_more was between after (openings (take n (map parts_of ws))) (givings_up (take n (map parts_of ws))) first (subst (λ (l : List Deed). Does between after l) up ending),
      )

  -- there was no memory for them
  pub unlisted : (fault : LaunchFault) → fault ≡ NoMemory → IsUnopened (map parts_of ws) was was fault
  unlisted fault is = subst (λ (f : LaunchFault). IsUnopened (map parts_of ws) was was f) (sym is) (does_nothing was)
