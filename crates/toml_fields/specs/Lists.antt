-- The arrays of a table.
use Rattle.std.specs.Prelude.{ℕ, ℤ, List, [], ◌∷◌, length, Option, Some, None, Bool, ◌&&◌}
use Rattle.std.specs.Prelude.{if◌then◌else◌, is_some, option_and_then, option_map, ◌==◌}
use Rattle.std.specs.List.{list_all}
use Rattle.toml.specs.Data.{Data, Items, no_items, item, Members, get_member, as_integer, as_array}
use Rattle.toml.specs.Data.{as_table}
use Rattle.toml_fields.specs.Fields.{has_key}

-- the items of an array as a list
abbrev pub item_list : Items → List Data
item_list no_items = []
item_list (item d ds) = d ∷ item_list ds

-- the items of a value that is an array
abbrev pub items_of : Data → Option (List Data)
items_of d = option_map item_list (as_array d)

-- the items of the array at a key
abbrev pub array_at : List ℕ → Members → Option (List Data)
array_at key members = option_and_then items_of (get_member key members)

-- the items of the array at a key, and none where the key is missing
abbrev pub array_or_none : List ℕ → Members → Option (List Data)
array_or_none key members = if has_key key members then array_at key members else Some []

-- the items, where each passes the test
abbrev pub each_passes : (Data → Bool) → List Data → Option (List Data)
each_passes test items = if list_all test items then Some items else None

-- the value is a table
abbrev pub is_table : Data → Bool
is_table d = is_some (as_table d)

-- the items of the array of tables at a key
abbrev pub tables_at : List ℕ → Members → Option (List Data)
tables_at key members = option_and_then (each_passes is_table) (array_at key members)

-- the items of the array of tables at a key, and none where the key is missing
abbrev pub tables_or_none : List ℕ → Members → Option (List Data)
tables_or_none key members = option_and_then (each_passes is_table) (array_or_none key members)

-- the integer before the integers
abbrev pub prepend : Option ℤ → Option (List ℤ) → Option (List ℤ)
prepend (Some n) (Some ns) = Some (n ∷ ns)
prepend _ _ = None

-- the integers, where each item is one
abbrev pub integers : List Data → Option (List ℤ)
integers [] = Some []
integers (d ∷ ds) = prepend (as_integer d) (integers ds)

-- the integers of an array of exactly so many
abbrev pub integers_of : ℕ → Data → Option (List ℤ)
integers_of count d =
    option_and_then (λ items. if length items == count then integers items else None) (items_of d)

-- the items are exactly so many, and each is an integer
abbrev pub are_integers : ℕ → List Data → Bool
are_integers count items = length items == count && list_all (λ d. is_some (as_integer d)) items

-- the value is an array of exactly so many integers
abbrev pub is_row : ℕ → Data → Bool
is_row count d =
    is_some (option_and_then (λ items. if are_integers count items then Some items
    else None) (items_of d))

-- the items of the array at a key, each an array of exactly so many integers
abbrev pub rows_at : ℕ → List ℕ → Members → Option (List Data)
rows_at count key members = option_and_then (each_passes (is_row count)) (array_at key members)

-- the same, and none where the key is missing
abbrev pub rows_or_none : ℕ → List ℕ → Members → Option (List Data)
rows_or_none count key members =
    option_and_then (each_passes (is_row count)) (array_or_none key members)
