-- The dispatcher's seat, one step after the other.
use Rattle.std.proofs.Common.{◌∙◌}
use Rattle.atomic_table.specs.declared.owned.Table.{Table}
use Rattle.atomic_table.specs.declared.shared.Seat.{Seat as TableSeat}
use Rattle.table_rule.specs.declared.rule.Law.{Law}
use Rattle.table_rule.specs.declared.view.TableKey.{TableKey}
use Rattle.table_rule.specs.declared.view.View.{View}
use Rattle.table_rule.specs.declared.view.Slot.{Slot}
use Rattle.run_table.specs.Seats.{IsSeatOf, IsOf}

pub of_then : {B : Type 0} (a b c : TableSeat (Slot B) (View B)) → IsOf a b → IsOf b c → IsOf a c
of_then a b c first second = record { table = second.table ∙ first.table; about = second.about ∙ first.about }

pub seat_then : {B A : Type 0} (t : Table (Slot B) (View B) (TableKey B) Law A) (a b : TableSeat (Slot B) (View B)) → IsSeatOf t a → IsOf a b → IsSeatOf t b
seat_then t a b is of = record { same = of.table ∙ is.same; about = of.about ∙ is.about }
