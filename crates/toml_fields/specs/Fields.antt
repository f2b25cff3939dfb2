-- The fields of a table, by key, type and range.
use Rattle.std.specs.Prelude.{ℕ, suc, ℤ, List, length, Option, Some, None, Bool, nat_le, nat_lt}
use Rattle.std.specs.Prelude.{◌&&◌, if◌then◌else◌, is_some, option_and_then, count_by}
use Rattle.std.specs.List.{list_all}
use Rattle.toml.specs.Data.{Members, no_members, member, get_member, as_str, as_integer, as_table}
use Rattle.toml_fields.specs.Ranges.{is_within}

-- how many keys a table has
abbrev pub members_len : Members → ℕ
members_len no_members = 0
members_len (member key d members) = suc (members_len members)

-- the table has the key
abbrev pub has_key : List ℕ → Members → Bool
has_key key members = is_some (get_member key members)

-- the table has more keys than it has of the listed ones
abbrev pub has_unknown_key : List (List ℕ) → Members → Bool
has_unknown_key keys members =
    nat_lt (count_by (λ key. has_key key members) keys) (members_len members)

-- the text at a key
abbrev pub text_at : List ℕ → Members → Option (List ℕ)
text_at key members = option_and_then as_str (get_member key members)

-- 1 to 24 bytes from 0x21 to 0x7E
abbrev pub is_name : List ℕ → Bool
is_name text =
    (nat_le 1 (length text) && nat_le (length text) 24)
    && list_all (λ b. nat_le 0x21 b && nat_le b 0x7E) text

-- the text, where it is a name
abbrev pub checked_name : List ℕ → Option (List ℕ)
checked_name text = if is_name text then Some text else None

-- the name at a key
abbrev pub name_at : List ℕ → Members → Option (List ℕ)
name_at key members = option_and_then checked_name (text_at key members)

-- the integer at a key, whatever it is
abbrev pub whole_at : List ℕ → Members → Option ℤ
whole_at key members = option_and_then as_integer (get_member key members)

-- the integer, where it is within the two ends
abbrev pub checked_integer : ℤ → ℤ → ℤ → Option ℤ
checked_integer low high n = if is_within low high n then Some n else None

-- the integer at a key, within the two ends
abbrev pub integer_at : ℤ → ℤ → List ℕ → Members → Option ℤ
integer_at low high key members = option_and_then (checked_integer low high) (whole_at key members)

-- the integer at a key, within the two ends, and the given one where the key is missing
abbrev pub integer_or : ℤ → ℤ → ℤ → List ℕ → Members → Option ℤ
integer_or missing low high key members =
    if has_key key members then integer_at low high key members else Some missing

-- the table at a key
abbrev pub table_at : List ℕ → Members → Option Members
table_at key members = option_and_then as_table (get_member key members)
