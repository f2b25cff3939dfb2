-- Stages that are made of the pieces of a choice: they are those that are wanted, keep to the rules
-- of a machine's stages, and the stock suffices for them.
use Rattle.std.proofs.Common.{◌≡◌, ℕ, zero, suc, ◌+◌, ◌<◌, ◌≤◌, ◌==◌, ℤ, pos, ◌+ℤ◌, Bool, true}
use Rattle.std.proofs.Common.{false, ◌||◌, cond, nat_lt, List, [], ◌∷◌, map, length, fold, find}
use Rattle.std.proofs.Common.{take, Option, Some, None, Ok, All, get_or, refl, sym, ap, subst}
use Rattle.std.proofs.Common.{◌∙◌, arith}
use Rattle.std.specs.Prelude.{sum_by, bytes_eq}
use Rattle.std.specs.List.{slice_get, list_any, range_with_len}
use Rattle.std.specs.Ordering.{int_eq}
use Rattle.std.proofs.Math.IntN.{+ℤ_idl, +ℤ_assoc}
use Rattle.std.proofs.lemmas.Bool.{ltb-true, eq-eqb}
use Rattle.std.proofs.lemmas.Int.{ints}
use Rattle.std.proofs.lemmas.Bool.Decides.{Decides-int_eq}
use Rattle.std.proofs.lemmas.Slice.Eq.{bytes_eq-Decides}
use Rattle.std.proofs.lemmas.Option.{slice_get_within, get_or_from_slice_get}
use Rattle.std.proofs.lemmas.List.Elements.{All-nil, All-cons}
use Rattle.std.proofs.lemmas.List.Sums.{sum_by-cons, sum_by-take-le}
use Rattle.toml_fields.specs.Results.{refuse_found}
use Rattle.tool_library.specs.Tools.{PunchData, DieData, ToolsData, IsPunch, IsDie, IsSection, IsTools}
use Rattle.machine_file.specs.Machine.{StageTextData, IsPiece, IsStageText}
use Rattle.job_setup.specs.declared.fault.JobFault.TheVariants.{StockShort}
use Rattle.job_setup.specs.Stages.{punch_named, die_named}
use Rattle.job_setup.specs.Stages.{total as fold_total}
use Rattle.job_setup.specs.Stock.{is_used_up, is_short}
use Rattle.job_setup.specs.Stock.{stock_suffices}
use Rattle.piece_pick.specs.declared.stock.Tool.{Tool}
use Rattle.piece_pick.specs.declared.stock.Tool.TheVariants.{Punch as PunchAt, Die as DieAt}
use Rattle.tool_library.specs.Stock.{punch_sections, die_sections}
use Rattle.tool_library.specs.Stock.{section_count, held, count_of}
use Rattle.piece_pick.specs.Stock.{sections_of, is_of, taken_by, taken}
use Rattle.piece_pick.specs.Choice.{total, AreMadeUp}
use Rattle.setup_choice.specs.Setups.{StageWantData, IsStageWant}
use Rattle.setup_choice.specs.Wanted.{wanted_by}
use Rattle.setup_choice.specs.Fitting.{made_of, made_of_choice, punch_place, die_place, want_of}
use Rattle.setup_choice.proofs.ToolPlaces.{at_place, HasTools}

-- ---- the made stages are those that are wanted
totals_from : (start : ℤ) (pieces : List ℤ) → fold ◌+ℤ◌ start pieces ≡ start +ℤ total pieces
totals_from start [] = omega (arith, ints)
totals_from start (piece ∷ pieces) =
    totals_from (start +ℤ piece) pieces ∙ +ℤ_assoc start piece (total pieces)

totals : (pieces : List ℤ) → fold_total pieces ≡ total pieces
totals pieces = totals_from (pos 0) pieces ∙ +ℤ_idl (total pieces)

pub made_wanted : (tools : ToolsData) (stages : List StageWantData) (choice : List (List ℤ))
    → AreMadeUp (map (want_of tools) stages) choice
    → map wanted_by (made_of_choice stages choice) ≡ stages
made_wanted tools [] [] each = refl
made_wanted tools [] (pieces ∷ choice) each = absurd each
made_wanted tools (s ∷ stages) [] each = absurd each
made_wanted tools (s ∷ stages) (pieces ∷ choice) each =
    ap (λ (n : ℤ). record { punch = s.punch; die = s.die; at = s.at; length = n }
    ∷ map wanted_by (made_of_choice stages choice)) (totals pieces ∙ each.0.sum)
    ∙ ap (λ (others : List StageWantData). s ∷ others) (made_wanted tools stages choice each.1)

-- ---- the pieces are of lengths that the shop has
held_some : (sections : List (ℤ × ℕ)) (piece : ℤ) → All IsSection sections
    → 0 < held sections piece → IsPiece piece
held_some [] piece all some = absurd (omega arith)
held_some (section ∷ sections) piece all some =
    let parts : held (section ∷ sections) piece
    ≡ section_count piece section + held sections piece =
    sum_by-cons (section_count piece) section sections in
    by_test (int_eq section.0 piece) refl parts
    (λ more. held_some sections piece (λ k d within. all (suc k) d (omega arith)) more)
  where
    by_test : (b : Bool) → int_eq section.0 piece ≡ b → held (section ∷ sections) piece
        ≡ (cond b section.1 0) + held sections piece
        → (0 < held sections piece → IsPiece piece) → IsPiece piece
    by_test true is parts later =
        let same : section.0 ≡ piece = (Decides-int_eq section.0 piece).0 is in
        let fit : IsSection section = all 0 section (omega arith) in
        subst (λ (n : ℤ). IsPiece n) same
        (record { bottom = fit.length.bottom; top = fit.length.top })
    by_test false is parts later = later (omega (arith, parts, some))

all_get : {X : Type 0} (P : X → Type 0) (xs : List X) (i : ℕ) (x : X) → All P xs
    → slice_get xs i ≡ Some x → P x
all_get P xs i x all is =
    subst P (get_or_from_slice_get xs i x x is) (all i x (slice_get_within xs i x is))

sections_fit : (tools : ToolsData) (tool : Tool) → IsTools tools
    → All IsSection (sections_of tools tool)
sections_fit tools (PunchAt place) fit = by_found (slice_get tools.punches place) refl
  where
    by_found : (found : Option PunchData) → slice_get tools.punches place ≡ found
        → All IsSection (sections_of tools (PunchAt place))
    by_found None is = subst (λ (o : Option PunchData). All IsSection (punch_sections o)) (sym is)
        (All-nil IsSection)
    by_found (Some punch) is =
        subst (λ (o : Option PunchData). All IsSection (punch_sections o)) (sym is)
        (all_get IsPunch tools.punches place punch fit.punches is).lists.each_section
sections_fit tools (DieAt place) fit = by_found (slice_get tools.dies place) refl
  where
    by_found : (found : Option DieData) → slice_get tools.dies place ≡ found
        → All IsSection (sections_of tools (DieAt place))
    by_found None is = subst (λ (o : Option DieData). All IsSection (die_sections o)) (sym is)
        (All-nil IsSection)
    by_found (Some die) is =
        subst (λ (o : Option DieData). All IsSection (die_sections o)) (sym is)
        (all_get IsDie tools.dies place die fit.dies is).lists.each_section

eqb_same : (n : ℕ) → (n == n) ≡ true
eqb_same n = eq-eqb n n refl

int_eq_same : (n : ℤ) → int_eq n n ≡ true
int_eq_same n = (Decides-int_eq n n).1 refl

some_more : (b : Bool) (n : ℕ) → b ≡ true → 0 < (cond b 1 0) + n
some_more true n is = omega arith
some_more false n is = absurd (cc)

-- each piece of a list is one of its length
counted : (pieces : List ℤ) (k : ℕ) (d : ℤ) → k < length pieces
    → 0 < count_of (get_or pieces k d) pieces
counted [] k d within = absurd (omega arith)
counted (piece ∷ pieces) zero d within =
    let parts : count_of piece (piece ∷ pieces)
    ≡ (cond (int_eq piece piece) 1 0) + count_of piece pieces =
    sum_by-cons (λ other. cond (int_eq other piece) 1 0) piece pieces in
    let more = some_more (int_eq piece piece) (count_of piece pieces) (int_eq_same piece) in
    omega (arith, parts, more)
counted (piece ∷ pieces) (suc k) d within =
    let this = get_or pieces k d in
    let parts : count_of this (piece ∷ pieces)
    ≡ (cond (int_eq piece this) 1 0) + count_of this pieces =
    sum_by-cons (λ other. cond (int_eq other this) 1 0) piece pieces in
    let rest = counted pieces k d (omega arith) in
    omega (arith, parts, rest)

-- a choice takes no more of a tool than its sections hold
abbrev pub AreHeld : ToolsData → List StageWantData → List (List ℤ) → Type 0
AreHeld tools stages choice = (tool : Tool) (piece : ℤ)
    → taken tool piece (map (want_of tools) stages) choice ≤ held (sections_of tools tool) piece

first_pieces : (tools : ToolsData) (s : StageWantData) (stages : List StageWantData)
    (pieces : List ℤ) (choice : List (List ℤ)) → IsTools tools
    → AreHeld tools (s ∷ stages) (pieces ∷ choice) → All IsPiece pieces
first_pieces tools s stages pieces choice fit are_held k d within =
    let tool : Tool = PunchAt (punch_place tools s.punch) in
    let piece = get_or pieces k d in
    let one : taken_by tool piece (want_of tools s) pieces ≡ count_of piece pieces =
    ap (λ (b : Bool). cond b (count_of piece pieces) 0) (eqb_same (punch_place tools s.punch)) in
    let some = counted pieces k d within in
    let most = are_held tool piece in
    held_some (sections_of tools tool) piece (sections_fit tools tool fit)
    (omega (arith, one, some, most))

rest_held : (tools : ToolsData) (s : StageWantData) (stages : List StageWantData)
    (pieces : List ℤ) (choice : List (List ℤ)) → AreHeld tools (s ∷ stages) (pieces ∷ choice)
    → AreHeld tools stages choice
rest_held tools s stages pieces choice are_held tool piece =
    let most = are_held tool piece in omega (arith, most)

-- ---- the made stages keep to the rules of a machine's stages
pub made_fit : (tools : ToolsData) (stages : List StageWantData) (choice : List (List ℤ))
    → IsTools tools → All IsStageWant stages → AreMadeUp (map (want_of tools) stages) choice
    → AreHeld tools stages choice → All IsStageText (made_of_choice stages choice)
made_fit tools [] choice fit wants each are_held = All-nil IsStageText
made_fit tools (s ∷ stages) [] fit wants each are_held = absurd each
made_fit tools (s ∷ stages) (pieces ∷ choice) fit wants each are_held =
    let want : IsStageWant s = wants 0 s (omega arith) in
    let one : IsStageText (made_of (s, pieces)) = record {
      punch = want.punch;
      die = want.die;
      at = want.at;
      some_piece = each.0.some;
      few_pieces = each.0.few;
      pieces = first_pieces tools s stages pieces choice fit are_held;
    } in
    All-cons IsStageText (made_of (s, pieces)) (made_of_choice stages choice) one
    (made_fit tools stages choice fit (λ k d within. wants (suc k) d (omega arith)) each.1
    (rest_held tools s stages pieces choice are_held))

-- ---- the stock suffices
-- what a made stage uses of a length, where a name of it is this one
abbrev pub name_use : (StageTextData → List ℕ) → List ℕ → ℤ → StageTextData → ℕ
name_use name_of name piece text =
    cond (bytes_eq (name_of text) name) (count_of piece text.pieces) 0

-- a stage that has a name has the tool at its place, with the sections of that name
abbrev pub Serves : ToolsData → (StageTextData → List ℕ) → (List ℕ → List (ℤ × ℕ)) → (List ℕ → Tool)
    → Type 0
Serves tools name_of sections tool_of = (name : List ℕ) (s : StageWantData) (pieces : List ℤ)
    → HasTools tools s → bytes_eq (name_of (made_of (s, pieces))) name ≡ true
    → (is_of (tool_of name) (want_of tools s) ≡ true)
    × (sections name ≡ sections_of tools (tool_of name))

cond_le : (a b : Bool) (n : ℕ) → (a ≡ true → b ≡ true) → cond a n 0 ≤ cond b n 0
cond_le true b n h = let yes = h refl in rw yes (omega arith)
cond_le false b n h = omega arith

-- what the made stages use by a name, the choice takes from the tool at its place
used_taken : (tools : ToolsData) (name_of : StageTextData → List ℕ) (sections : List ℕ → List (ℤ × ℕ))
    (tool_of : List ℕ → Tool) (name : List ℕ) (piece : ℤ) (stages : List StageWantData)
    (choice : List (List ℤ)) → Serves tools name_of sections tool_of → All (HasTools tools) stages
    → sum_by (name_use name_of name piece) (made_of_choice stages choice)
    ≤ taken (tool_of name) piece (map (want_of tools) stages) choice
used_taken tools name_of sections tool_of name piece [] choice serves has = omega arith
used_taken tools name_of sections tool_of name piece (s ∷ stages) [] serves has = omega arith
used_taken tools name_of sections tool_of name piece (s ∷ stages) (pieces ∷ choice) serves has =
    let parts = sum_by-cons (name_use name_of name piece) (made_of (s, pieces))
    (made_of_choice stages choice) in
    let one : name_use name_of name piece (made_of (s, pieces))
    ≤ taken_by (tool_of name) piece (want_of tools s) pieces =
    cond_le (bytes_eq (name_of (made_of (s, pieces))) name)
    (is_of (tool_of name) (want_of tools s)) (count_of piece pieces)
    (λ is. (serves name s pieces (has 0 s (omega arith)) is).0) in
    let rest = used_taken tools name_of sections tool_of name piece stages choice serves
    (λ k d within. has (suc k) d (omega arith)) in
    omega (arith, parts, one, rest)

-- where a name is used at all, its sections are those of the tool at its place
used_named : (tools : ToolsData) (name_of : StageTextData → List ℕ) (sections : List ℕ → List (ℤ × ℕ))
    (tool_of : List ℕ → Tool) (name : List ℕ) (piece : ℤ) (stages : List StageWantData)
    (choice : List (List ℤ)) → Serves tools name_of sections tool_of → All (HasTools tools) stages
    → 0 < sum_by (name_use name_of name piece) (made_of_choice stages choice)
    → sections name ≡ sections_of tools (tool_of name)
used_named tools name_of sections tool_of name piece [] choice serves has some =
    absurd (omega arith)
used_named tools name_of sections tool_of name piece (s ∷ stages) [] serves has some =
    absurd (omega arith)
used_named tools name_of sections tool_of name piece (s ∷ stages) (pieces ∷ choice) serves has some =
    by_test (bytes_eq (name_of (made_of (s, pieces))) name) refl
    (sum_by-cons (name_use name_of name piece) (made_of (s, pieces))
    (made_of_choice stages choice))
    (λ more. used_named tools name_of sections tool_of name piece stages choice serves
    (λ k d within. has (suc k) d (omega arith)) more)
  where
    by_test : (b : Bool) → bytes_eq (name_of (made_of (s, pieces))) name ≡ b
        → sum_by (name_use name_of name piece) (made_of_choice (s ∷ stages) (pieces ∷ choice))
        ≡ (cond b (count_of piece pieces) 0)
        + sum_by (name_use name_of name piece) (made_of_choice stages choice)
        → (0 < sum_by (name_use name_of name piece) (made_of_choice stages choice)
        → sections name ≡ sections_of tools (tool_of name))
        → sections name ≡ sections_of tools (tool_of name)
    by_test true is parts later = (serves name s pieces (has 0 s (omega arith)) is).1
    by_test false is parts later = later (omega (arith, parts, some))

lt_not : (a b : ℕ) → (a < b → ⊥) → nat_lt a b ≡ false
lt_not a b never = by_test (nat_lt a b) refl
  where
    by_test : (t : Bool) → nat_lt a b ≡ t → t ≡ false
    by_test false is = refl
    by_test true is = absurd (never (ltb-true a b is))

-- no length is used up by a name
pub not_used_up : (tools : ToolsData) (name_of : StageTextData → List ℕ)
    (sections : List ℕ → List (ℤ × ℕ)) (tool_of : List ℕ → Tool) (name : List ℕ) (piece : ℤ)
    (stages : List StageWantData) (choice : List (List ℤ)) (i : ℕ)
    → Serves tools name_of sections tool_of → All (HasTools tools) stages
    → AreHeld tools stages choice
    → nat_lt (held (sections name) piece) (sum_by (name_use name_of name piece)
    (take (i + 1) (made_of_choice stages choice))) ≡ false
not_used_up tools name_of sections tool_of name piece stages choice i serves has are_held =
    lt_not (held (sections name) piece) (sum_by (name_use name_of name piece)
    (take (i + 1) (made_of_choice stages choice))) (λ over.
    let part = sum_by-take-le (name_use name_of name piece) (made_of_choice stages choice)
    (i + 1) in
    let named = used_named tools name_of sections tool_of name piece stages choice serves has
    (omega (arith, over, part)) in
    let same : held (sections name) piece ≡ held (sections_of tools (tool_of name)) piece =
    ap (λ (ss : List (ℤ × ℕ)). held ss piece) named in
    let takes = used_taken tools name_of sections tool_of name piece stages choice serves has in
    let most = are_held (tool_of name) piece in
    omega (arith, over, part, same, takes, most))

none_any : {X : Type 0} (p : X → Bool) (xs : List X) → ((x : X) → p x ≡ false)
    → list_any p xs ≡ false
none_any p [] fails = refl
none_any p (x ∷ xs) fails = rw (fails x) (none_any p xs fails)

or_false : (a b : Bool) → a ≡ false → b ≡ false → (a || b) ≡ false
or_false false b one two = two
or_false true b one two = one

punches_serve : (tools : ToolsData) → Serves tools (λ text. text.punch)
    (λ name. punch_sections (punch_named tools.punches name))
    (λ name. PunchAt (punch_place tools name))
punches_serve tools name s pieces has is =
    let same : s.punch ≡ name = (bytes_eq-Decides s.punch name).0 is in
    let found : punch_named tools.punches name ≡ Some has.punch =
    ap (punch_named tools.punches) (sym same) ∙ has.is_punch in
    let here = (at_place (λ punch. bytes_eq punch.name name) tools.punches has.punch found).1 in (
      ap (λ (n : List ℕ). punch_place tools n == punch_place tools name) same
          ∙ eqb_same (punch_place tools name),
      ap punch_sections found ∙ sym (ap punch_sections here),
    )

dies_serve : (tools : ToolsData) → Serves tools (λ text. text.die)
    (λ name. die_sections (die_named tools.dies name))
    (λ name. DieAt (die_place tools name))
dies_serve tools name s pieces has is =
    let same : s.die ≡ name = (bytes_eq-Decides s.die name).0 is in
    let found : die_named tools.dies name ≡ Some has.die =
    ap (die_named tools.dies) (sym same) ∙ has.is_die in
    let here = (at_place (λ die. bytes_eq die.name name) tools.dies has.die found).1 in (
      ap (λ (n : List ℕ). die_place tools n == die_place tools name) same
          ∙ eqb_same (die_place tools name),
      ap die_sections found ∙ sym (ap die_sections here),
    )

not_short : (tools : ToolsData) (stages : List StageWantData) (choice : List (List ℤ)) (i : ℕ)
    → All (HasTools tools) stages → AreHeld tools stages choice
    → is_short tools (made_of_choice stages choice) i ≡ false
unfolding is_short is_used_up
not_short tools stages choice i has are_held =
    let first = take (i + 1) (made_of_choice stages choice) in
    or_false _ _
    (none_any _ first (λ other. none_any _ first (λ stage. none_any _ stage.pieces (λ piece.
    not_used_up tools (λ text. text.punch)
    (λ name. punch_sections (punch_named tools.punches name))
    (λ name. PunchAt (punch_place tools name)) other.punch piece stages choice i
    (punches_serve tools) has are_held))))
    (none_any _ first (λ other. none_any _ first (λ stage. none_any _ stage.pieces (λ piece.
    not_used_up tools (λ text. text.die)
    (λ name. die_sections (die_named tools.dies name))
    (λ name. DieAt (die_place tools name)) other.die piece stages choice i
    (dies_serve tools) has are_held))))

finds_none : (test : ℕ → Bool) (numbers : List ℕ) → ((i : ℕ) → test i ≡ false)
    → find test numbers ≡ None
finds_none test [] fails = refl
finds_none test (i ∷ numbers) fails = rw (fails i) (finds_none test numbers fails)

pub stock_fits : (tools : ToolsData) (stages : List StageWantData) (choice : List (List ℤ))
    → All (HasTools tools) stages → AreHeld tools stages choice
    → stock_suffices tools (made_of_choice stages choice) ≡ Ok tt
stock_fits tools stages choice has are_held =
    let made = made_of_choice stages choice in
    ap (λ (o : Option ℕ). refuse_found o StockShort)
    (finds_none (is_short tools made) (range_with_len 0 (length made))
    (λ i. not_short tools stages choice i has are_held))
