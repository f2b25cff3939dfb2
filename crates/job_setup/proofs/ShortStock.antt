-- Where the stages before have enough of everything, a stage's own tools and lengths tell whether the stock is short.
use Rattle.std.proofs.Common.{◌≡◌, ℕ, zero, suc, ◌+◌, ◌<◌, ℤ, Bool, true, false, ◌||◌, nat_lt, cond, Some, List, [], ◌∷◌, length, take, Option, refl, sym, ap, ◌∙◌, ◌⊎◌, inl, inr, arith}
use Rattle.std.specs.Prelude.{find, sum_by, count_by, bytes_eq}
use Rattle.std.specs.List.{list_any, range_with_len}
use Rattle.std.specs.Ordering.{int_eq}
use Rattle.std.proofs.lemmas.Bool.{cases_lt}
use Rattle.std.proofs.lemmas.Bool.Decides.{Decides-int_eq}
use Rattle.std.proofs.lemmas.Slice.Eq.{bytes_eq-Decides}
use Rattle.std.proofs.lemmas.List.Sums.{sum_by-cons, sum_by_more}
use Rattle.toml_fields.specs.Results.{first_below}
use Rattle.tool_library.specs.Tools.{ToolsData}
use Rattle.machine_file.specs.Machine.{StageTextData}
use Rattle.job_setup.specs.declared.stock.ToolKind.{ToolKind}
use Rattle.job_setup.specs.declared.stock.ToolKind.TheVariants.{Punch, Die}
use Rattle.job_setup.specs.Stock.{tool_name, stage_use, used, is_used_up, is_tool_short, is_kind_short, is_short}
use Rattle.job_setup.specs.StageStock.{overuses, no_stage_text, stage_text_at, is_stage_short}

-- ---- tests and sums over lists
or_left : (a b : Bool) → a ≡ true → (a || b) ≡ true
or_left a b h = rw h refl

or_right : (a b : Bool) → b ≡ true → (a || b) ≡ true
or_right true b h = refl
or_right false b h = h

or_cases : (a b : Bool) → (a || b) ≡ true → (a ≡ true) ⊎ (b ≡ true)
or_cases true b h = inl refl
or_cases false b h = inr h

positive_one : (t : Bool) → 0 < cond t 1 0 → t ≡ true
positive_one true h = refl
positive_one false h = absurd (omega arith)

-- where a sum is positive, a test that each item with a positive part passes is passed
positive_any : {X : Type 0} (f : X → ℕ) (p : X → Bool) (xs : List X) → ((x : X) → 0 < f x → p x ≡ true) → 0 < sum_by f xs → list_any p xs ≡ true
positive_any f p [] h some = absurd (omega arith)
positive_any {X = X} f p (x ∷ xs) h some = elim (first (f x)) [
  | inl one ↦ or_left (p x) (list_any p xs) (h x one)
  | inr none ↦ or_right (p x) (list_any p xs) (positive_any f p xs h (omega (arith, some, none, sum_by-cons f x xs)))
]
  where
    first : (n : ℕ) → (0 < n) ⊎ (n ≡ 0)
    first zero = inr refl
    first (suc n) = inl (omega arith)

-- the item that passes a test
any_gives : {X : Type 0} (p : X → Bool) (xs : List X) → list_any p xs ≡ true → (x : X) × (p x ≡ true)
any_gives p [] h = absurd (cc)
any_gives p (x ∷ xs) h = elim (or_cases (p x) (list_any p xs) h) [
  | inl here ↦ (x, here)
  | inr later ↦ any_gives p xs later
]

-- ---- the first number that passes a test
same_step : (a : ℕ) (s t : Bool) (x y : Option ℕ) → (s ≡ true → t ≡ true) → (t ≡ true → s ≡ true) → (t ≡ false → x ≡ y) → cond s (Some a) x ≡ cond t (Some a) y
same_step a true true x y to from later = refl
same_step a false false x y to from later = later refl
same_step a true false x y to from later = let no : false ≡ true = to refl in absurd (cc)
same_step a false true x y to from later = let no : false ≡ true = from refl in absurd (cc)

-- a test that fails where the other does, and passes at least at the first number that the other passes, finds the same
same_from : (p q : ℕ → Bool) (a n : ℕ) → ((i : ℕ) → i < a + n → p i ≡ true → q i ≡ true) → ((i : ℕ) → i < a + n → q i ≡ true → (p i ≡ true) ⊎ ((j : ℕ) × (j < i) × (q j ≡ true))) → ((j : ℕ) → j < a → q j ≡ true → ⊥) → find p (range_with_len a n) ≡ find q (range_with_len a n)
same_from p q a zero to from before = refl
same_from p q a (suc n) to from before =
    same_step a (p a) (q a) (find p (range_with_len (a + 1) n)) (find q (range_with_len (a + 1) n)) (to a (omega arith)) back
    (λ none. same_from p q (a + 1) n (λ i within. to i (omega arith)) (λ i within. from i (omega arith)) (none_before none))
  where
    back : q a ≡ true → p a ≡ true
    back h = elim (from a (omega arith) h) [
      | inl same ↦ same
      | inr earlier ↦ absurd (before earlier.0 earlier.1 earlier.2)
    ]

    none_before : q a ≡ false → (j : ℕ) → j < a + 1 → q j ≡ true → ⊥
    none_before none j within passes = elim (cases_lt j a) [
      | inl less ↦ before j less passes
      | inr least ↦ let same : j ≡ a = omega arith in let no : false ≡ true = sym none ∙ ap q (sym same) ∙ passes in absurd (cc)
    ]

-- ---- the stock
by_name : {A B : Type 0} (t : Bool) (n : ℕ) → (t ≡ true → A) → (0 < n → B) → 0 < cond t n 0 → A × B
by_name true n name count some = (name refl, count some)
by_name false n name count some = absurd (omega arith)

-- where a stage uses a length with the tool of a name, it has that tool, and what each of its pieces of that length passes is passed
used_at : (kind : ToolKind) (name : List ℕ) (length : ℤ) (p : ℤ → Bool) (stage : StageTextData) → p length ≡ true → 0 < stage_use kind name length stage → (tool_name kind stage ≡ name) × (list_any p stage.pieces ≡ true)
used_at kind name length p stage passed some =
    by_name (bytes_eq (tool_name kind stage) name) (count_by (λ piece. int_eq piece length) stage.pieces) (bytes_eq-Decides (tool_name kind stage) name).0
    (λ count. positive_any (λ piece. cond (int_eq piece length) 1 0) p stage.pieces (λ piece one. ap p ((Decides-int_eq piece length).0 (positive_one (int_eq piece length) one)) ∙ passed) count) some

used_some : (tools : ToolsData) (stages : List StageTextData) (kind : ToolKind) (name : List ℕ) (length : ℤ) → is_used_up tools stages kind name length ≡ true → 0 < used kind stages name length
unfolding is_used_up
used_some tools stages kind name length h = grind arith

-- a length that is used up with some tool tells that the stock is short, whatever the tool and the length
pub kind_short : (tools : ToolsData) (stages : List StageTextData) (kind : ToolKind) (name : List ℕ) (length : ℤ) → is_used_up tools stages kind name length ≡ true → is_kind_short tools stages kind ≡ true
kind_short tools stages kind name length h =
    let some = used_some tools stages kind name length h in
    let tool : is_tool_short tools stages kind name ≡ true = positive_any (stage_use kind name length) (λ stage. list_any (is_used_up tools stages kind name) stage.pieces) stages (λ stage one. (used_at kind name length (is_used_up tools stages kind name) stage h one).1) some in
    positive_any (stage_use kind name length) (λ stage. is_tool_short tools stages kind (tool_name kind stage)) stages (λ stage one. ap (is_tool_short tools stages kind) (used_at kind name length (is_used_up tools stages kind name) stage h one).0 ∙ tool) some

-- and then there are such a tool and such a length
pub short_kind : (tools : ToolsData) (stages : List StageTextData) (kind : ToolKind) → is_kind_short tools stages kind ≡ true → (name : List ℕ) × (length : ℤ) × (is_used_up tools stages kind name length ≡ true)
short_kind tools stages kind h =
    let user = any_gives (λ stage. is_tool_short tools stages kind (tool_name kind stage)) stages h in
    let other = any_gives (λ stage. list_any (is_used_up tools stages kind (tool_name kind user.0)) stage.pieces) stages user.1 in
    let piece = any_gives (is_used_up tools stages kind (tool_name kind user.0)) other.0.pieces other.1 in
    (tool_name kind user.0, piece.0, piece.1)

overuse_is_short : (tools : ToolsData) (stages : List StageTextData) (stage : StageTextData) (kind : ToolKind) → overuses tools stages stage kind ≡ true → is_kind_short tools stages kind ≡ true
overuse_is_short tools stages stage kind h =
    let piece = any_gives (is_used_up tools stages kind (tool_name kind stage)) stage.pieces h in
    kind_short tools stages kind (tool_name kind stage) piece.0 piece.1

-- what is used up at a stage is used up at the stages before, or the stage itself uses it
used_before : (held before here all : ℕ) → all ≡ before + here → nat_lt held all ≡ true → (nat_lt held before ≡ true) ⊎ (0 < here)
used_before held before zero all e h = inl (grind arith)
used_before held before (suc here) all e h = inr (omega arith)

short_before : (tools : ToolsData) (stages : List StageTextData) (kind : ToolKind) (i : ℕ) → i < length stages → is_kind_short tools (take (i + 1) stages) kind ≡ true
    → (overuses tools (take (i + 1) stages) (stage_text_at stages i) kind ≡ true) ⊎ (is_kind_short tools (take i stages) kind ≡ true)
unfolding is_used_up
short_before tools stages kind i within h =
    let short = short_kind tools (take (i + 1) stages) kind h in
    let name = short.0 in
    let size = short.1 in
    let more = sum_by_more (stage_use kind name size) stages i no_stage_text within in
    elim (used_before _ (used kind (take i stages) name size) (stage_use kind name size (stage_text_at stages i)) _ more short.2) [
      | inl before ↦ inr (kind_short tools (take i stages) kind name size before)
      | inr here ↦
          let at = used_at kind name size (is_used_up tools (take (i + 1) stages) kind name) (stage_text_at stages i) short.2 here in
          inl (ap (λ (n : List ℕ). list_any (is_used_up tools (take (i + 1) stages) kind n) (stage_text_at stages i).pieces) at.0 ∙ at.1)
    ]

short_of_kind : (tools : ToolsData) (stages : List StageTextData) (kind : ToolKind) (i : ℕ) → is_kind_short tools (take (i + 1) stages) kind ≡ true → is_short tools stages i ≡ true
unfolding is_short
short_of_kind tools stages Punch i h = or_left (is_kind_short tools (take (i + 1) stages) Punch) (is_kind_short tools (take (i + 1) stages) Die) h
short_of_kind tools stages Die i h = or_right (is_kind_short tools (take (i + 1) stages) Punch) (is_kind_short tools (take (i + 1) stages) Die) h

stage_short_of_kind : (tools : ToolsData) (stages : List StageTextData) (kind : ToolKind) (i : ℕ) → overuses tools (take (i + 1) stages) (stage_text_at stages i) kind ≡ true → is_stage_short tools stages i ≡ true
unfolding is_stage_short
stage_short_of_kind tools stages Punch i h = or_left (overuses tools (take (i + 1) stages) (stage_text_at stages i) Punch) (overuses tools (take (i + 1) stages) (stage_text_at stages i) Die) h
stage_short_of_kind tools stages Die i h = or_right (overuses tools (take (i + 1) stages) (stage_text_at stages i) Punch) (overuses tools (take (i + 1) stages) (stage_text_at stages i) Die) h

short_earlier : (tools : ToolsData) (stages : List StageTextData) (kind : ToolKind) (i : ℕ) → is_kind_short tools (take i stages) kind ≡ true → (j : ℕ) × (j < i) × (is_short tools stages j ≡ true)
short_earlier tools [] kind zero h = absurd (cc)
short_earlier tools (stage ∷ stages) kind zero h = absurd (cc)
short_earlier tools stages kind (suc j) h =
    let next : suc j ≡ j + 1 = omega arith in
    (j, omega arith, short_of_kind tools stages kind j (ap (λ n. is_kind_short tools (take n stages) kind) (sym next) ∙ h))

stage_short_is_short : (tools : ToolsData) (stages : List StageTextData) (i : ℕ) → is_stage_short tools stages i ≡ true → is_short tools stages i ≡ true
unfolding is_stage_short
stage_short_is_short tools stages i h =
    let so_far = take (i + 1) stages in
    let stage = stage_text_at stages i in
    elim (or_cases (overuses tools so_far stage Punch) (overuses tools so_far stage Die) h) [
      | inl punch ↦ short_of_kind tools stages Punch i (overuse_is_short tools so_far stage Punch punch)
      | inr die ↦ short_of_kind tools stages Die i (overuse_is_short tools so_far stage Die die)
    ]

kind_at_first : (tools : ToolsData) (stages : List StageTextData) (kind : ToolKind) (i : ℕ) → i < length stages → is_kind_short tools (take (i + 1) stages) kind ≡ true
    → (is_stage_short tools stages i ≡ true) ⊎ ((j : ℕ) × (j < i) × (is_short tools stages j ≡ true))
kind_at_first tools stages kind i within h = elim (short_before tools stages kind i within h) [
  | inl here ↦ inl (stage_short_of_kind tools stages kind i here)
  | inr before ↦ inr (short_earlier tools stages kind i before)
]

short_at_first : (tools : ToolsData) (stages : List StageTextData) (i : ℕ) → i < length stages → is_short tools stages i ≡ true
    → (is_stage_short tools stages i ≡ true) ⊎ ((j : ℕ) × (j < i) × (is_short tools stages j ≡ true))
unfolding is_short
short_at_first tools stages i within h =
    elim (or_cases (is_kind_short tools (take (i + 1) stages) Punch) (is_kind_short tools (take (i + 1) stages) Die) h) [
      | inl punch ↦ kind_at_first tools stages Punch i within punch
      | inr die ↦ kind_at_first tools stages Die i within die
    ]

-- the first stage that is short by its own tools and lengths is the first at which the stock is short
pub first_stage_short : (tools : ToolsData) (stages : List StageTextData) → first_below (is_stage_short tools stages) (length stages) ≡ first_below (is_short tools stages) (length stages)
first_stage_short tools stages =
    same_from (is_stage_short tools stages) (is_short tools stages) 0 (length stages)
    (λ i within h. stage_short_is_short tools stages i h)
    (λ i within h. short_at_first tools stages i (omega arith) h)
    (λ j below passes. omega arith)
