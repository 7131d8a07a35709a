-- JSON as it is written piece by piece, for the clauses of private functions.
use Rattle.std.specs.Prelude.{ℕ, List, [], ◌++◌, true, false, codes}
use Rattle.json.specs.Json.{Json, null, boolean, number, string, array, object, Items, no_items, item, Members, no_members, member}
use Rattle.json.specs.Print.{quoted}

abbrev mutual
  -- the text of a value
  pub value_text : Json → List ℕ
  value_text null = codes "null"
  value_text (boolean true) = codes "true"
  value_text (boolean false) = codes "false"
  value_text (number n) = n
  value_text (string text) = quoted text
  value_text (array no_items) = codes "[]"
  value_text (array (item value more)) = codes "[" ++ (value_text value ++ (items_behind more ++ codes "]"))
  value_text (object no_members) = codes "{}"
  value_text (object (member name value more)) = codes "{" ++ ((quoted name ++ (codes ":" ++ value_text value)) ++ (members_behind more ++ codes "}"))

  -- the items behind another one, each behind a comma
  pub items_behind : Items → List ℕ
  items_behind no_items = []
  items_behind (item value more) = codes "," ++ (value_text value ++ items_behind more)

  -- the members behind another one, each behind a comma
  pub members_behind : Members → List ℕ
  members_behind no_members = []
  members_behind (member name value more) = codes "," ++ ((quoted name ++ (codes ":" ++ value_text value)) ++ members_behind more)
