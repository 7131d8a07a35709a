-- All that may be printed, each theme and each strategy is among those that are listed.
use Rattle.std.proofs.Common.{◌≡◌, ◌||◌, Bool, true, false, if◌then◌else◌, map, Ok, Err, refl, arith}
use Rattle.std.specs.List.{Contains}
use Rattle.std.specs.Result.{is_ok}
use Rattle.run_results.specs.declared.theme.Theme.{Theme}
use Rattle.run_results.specs.declared.theme.Theme.TheVariants as themes
use Rattle.launch_options.specs.declared.details.Details.{Details}
use Rattle.launch_options.specs.declared.details.Details.TheVariants as details
use Rattle.launch_options.specs.Asked.{all_themes, theme_text}
use Rattle.launch_options.specs.DetailsTexts.{all_details}

pub each_details : (kind : Details) → Contains all_details kind
each_details details.None = (0, omega arith, refl)
each_details details.Summary = (1, omega arith, refl)
each_details details.Tree = (2, omega arith, refl)
each_details details.Testfeed = (3, omega arith, refl)
each_details details.Json = (4, omega arith, refl)
each_details details.Xml = (5, omega arith, refl)
each_details details.List = (6, omega arith, refl)
each_details details.Plan = (7, omega arith, refl)

pub each_theme : (theme : Theme) → Contains (map theme_text all_themes) (theme_text theme)
each_theme themes.Unicode = (0, omega arith, refl)
each_theme themes.Ascii = (1, omega arith, refl)

-- a choice between two gives one exactly if one of its conditions holds
pub one_of_two : {A E : Type 0} (first second : Bool) (x y : A) (e : E)
    → is_ok (if first then Ok x else (if second then Ok y else Err e)) ≡ (first || (second || false))
one_of_two true second x y e = refl
one_of_two false true x y e = refl
one_of_two false false x y e = refl
