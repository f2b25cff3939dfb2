-- A job line is read exactly where it is the text of a line that can be told.
use Rattle.std.proofs.Common.{◌≡◌, ℕ, zero, suc, ◌<◌, ◌≤◌, ℤ, pos, Bool, true, false, List, [], ◌∷◌, ◌++◌, codes, length, map, Option, Some, None, refl, sym, ap, subst, ◌∙◌, arith}
use Rattle.std.specs.Prelude.{if◌then◌else◌, bytes_eq}
use Rattle.std.specs.Option.{option_or}
use Rattle.std.specs.Fmt.{signed_decimal}
use Rattle.std.proofs.lemmas.Grind.{flat_map-append}
use Rattle.std.proofs.lemmas.Slice.Eq.{bytes_eq-Decides}
use Rattle.toml_fields.specs.Fields.{is_name, checked_name}
use Rattle.brake_base.specs.declared.plane.Rect.{Rect}
use Rattle.part_file.specs.Bounds.{most_faces}
use Rattle.part_file.specs.declared.part.Side.{Side}
use Rattle.part_file.specs.declared.part.Side.TheVariants.{N, E, S, W}
use Rattle.part_file.specs.declared.part.Dir.{Dir}
use Rattle.part_file.specs.declared.part.Joint.{Joint}
use Rattle.part_file.specs.Part.{FaceData}
use Rattle.machine_file.specs.declared.machine.Fixed.{Fixed}
use Rattle.machine_file.specs.declared.machine.GaugeRule.{GaugeRule}
use Rattle.brake_text.specs.Numbers.{number_of, signed_of}
use Rattle.brake_text.proofs.ReadBack.{signed_of-decimal}
use Rattle.cert_words.specs.LineWords.{◌>>=◌, then_in, signed_at, pair_at, side_of, dir_of, kind_at}
use Rattle.cert_words.specs.JobWords.{numbers_in, named_in, parent_at, standing_in, face_of, child_in}
use Rattle.cert_lines.specs.Lines.{CertLine, part_line, face_line, bed_line, frame_line, upper_line, lower_line, uncovered_line, gauge_line, cost_line, gang_line, force_line, fine_line, stage_line, punch_line, die_line, box_line, pieces_line, load_line, number, side_word, dir_word, face_words, keyword_of, words_of, spaced}
use Rattle.cert_lines.specs.LineReading.{keyword_in, behind_keyword}
use Rattle.cert_lines.specs.JobLineReading.{CostNumbers, cost_line_of, single, pair, triple, rect_of, fixed_of, gauge_of, cost_numbers, pieces_of, numbered, named, root_of, root_in, face_in, Form, form, number_forms, word_forms, by_form, number_line_in, words_line_in, line_in}
use Rattle.cert_lines.proofs.Each.{Each, Any, each_then, each_weaker}
use Rattle.cert_lines.proofs.WordsRead.{spelled, Ends, IsShort, IsSmall, word_read, checked, signed_read, kind_read, side_back, dir_back, side_plain, dir_plain, signed_plain, name_plain}
use Rattle.cert_lines.proofs.TextLines.{line_bytes, ArePlain}
use Rattle.cert_lines.proofs.Spelling.{signed_is, side_is, dir_is, name_is, each_line}
use Rattle.cert_lines.proofs.Readers.{ReadsWords, ReadsAll, ReadsLines, made_reads, both_reads, alone_reads, then_reads, kind_reads, any_kind, IsCount, count_reads}

-- each of the numbers is small
abbrev pub AllSmall : List ℤ → Type 0
AllSmall [] = Unit {0}
AllSmall (z ∷ zs) = IsSmall z × AllSmall zs

pub record SmallFace (f : FaceData) (joint : Joint) : Type 0 where
  pub name : is_name f.name ≡ true
  pub width : IsSmall f.width
  pub long : IsSmall f.length
  pub at : IsSmall joint.at
  pub on : IsShort joint.on

-- the numbers of a line
abbrev pub fixed_numbers : Fixed → List ℤ
fixed_numbers f = f.x0 ∷ f.x1 ∷ f.rect.y0 ∷ f.rect.y1 ∷ f.rect.z0 ∷ f.rect.z1 ∷ []

abbrev pub gauge_numbers : GaugeRule → List ℤ
gauge_numbers g = g.near ∷ g.far ∷ g.inset ∷ g.finger ∷ g.gap ∷ g.depth ∷ g.above ∷ g.below ∷ []

-- a face can be told
abbrev pub IsToldFace : FaceData → Option Joint → Type 0
IsToldFace f None = (is_name f.name ≡ true) × AllSmall (f.width ∷ f.length ∷ [])
IsToldFace f (Some joint) = SmallFace f joint × (joint.on < most_faces)

-- the line is a job line, whose names are names, and whose numbers have at most 18 digits
abbrev pub IsJobLine : CertLine → Type 0
IsJobLine (part_line m t r q) = (is_name m ≡ true) × AllSmall (t ∷ r ∷ q ∷ [])
IsJobLine (face_line f) = IsToldFace f f.joint
IsJobLine (bed_line b) = AllSmall (b.0 ∷ b.1 ∷ [])
IsJobLine (frame_line b) = AllSmall (b.0 ∷ b.1 ∷ [])
IsJobLine (upper_line f) = AllSmall (fixed_numbers f)
IsJobLine (lower_line f) = AllSmall (fixed_numbers f)
IsJobLine (uncovered_line n) = AllSmall (n ∷ [])
IsJobLine (gauge_line g) = AllSmall (gauge_numbers g)
IsJobLine (cost_line a b c d e f) = AllSmall (a ∷ b ∷ c ∷ d ∷ e ∷ f ∷ [])
IsJobLine (gang_line n) = AllSmall (n ∷ [])
IsJobLine (force_line n) = AllSmall (n ∷ [])
IsJobLine (fine_line n) = AllSmall (n ∷ [])
IsJobLine (stage_line a b) = AllSmall (a ∷ b ∷ [])
IsJobLine (punch_line name h n) = (is_name name ≡ true) × AllSmall (h ∷ n ∷ [])
IsJobLine (die_line name h v l) = (is_name name ≡ true) × AllSmall (h ∷ v ∷ l ∷ [])
IsJobLine (box_line r) = AllSmall (r.y0 ∷ r.y1 ∷ r.z0 ∷ r.z1 ∷ [])
IsJobLine (pieces_line ps) = (0 < length ps) × (length ps ≤ 32) × AllSmall ps
IsJobLine (load_line a b) = AllSmall (a ∷ b ∷ [])
IsJobLine _ = ⊥

-- numbers, and lists of them
signed_reads : ReadsWords IsSmall (λ z. signed_decimal z ∷ []) signed_at
unfolding signed_at
signed_reads = kind_reads IsSmall signed_decimal signed_of signed_of-decimal signed_is signed_plain

pair_reads : ReadsWords (λ (p : ℤ × ℤ). IsSmall p.0 × IsSmall p.1) (λ p. signed_decimal p.0 ∷ signed_decimal p.1 ∷ []) pair_at
unfolding pair_at
pair_reads = both_reads signed_reads signed_reads

abbrev numbers_text : List ℤ → List ℕ
numbers_text ns = spelled (map signed_decimal ns)

abbrev AreNumbers : ℕ → List ℤ → Type 0
AreNumbers most ns = (length ns ≤ most) × AllSmall ns

numbers_end : (zs : List ℤ) → Ends (numbers_text zs)
numbers_end [] = tt
numbers_end (z ∷ zs) = refl

numbers_back : (most : ℕ) (zs : List ℤ) → AreNumbers most zs → numbers_in most (numbers_text zs) ≡ Some zs
numbers_back zero [] are = refl
numbers_back (suc most) [] are = refl
numbers_back zero (z ∷ zs) are = absurd (omega (arith, are.0))
numbers_back (suc most) (z ∷ zs) are =
    ap (λ (o : Option (ℤ × List ℕ)). o >>= λ n. numbers_in most n.1 >>= λ numbers. Some (n.0 ∷ numbers)) (signed_read z (numbers_text zs) are.1.0 (numbers_end zs))
    ∙ ap (λ (o : Option (List ℤ)). o >>= λ numbers. Some (z ∷ numbers)) (numbers_back most zs (omega (arith, are.0), are.1.1))

numbers_only : (most : ℕ) (text : List ℕ) → Each (λ (ns : List ℤ). AreNumbers most ns × (text ≡ numbers_text ns)) (numbers_in most text)
numbers_only most [] = ((omega arith, tt), refl)
numbers_only zero (byte ∷ text) = tt
numbers_only (suc most) (byte ∷ text) =
    let Is : List ℤ → Type 0 = λ ns. AreNumbers (suc most) ns × (byte ∷ text ≡ numbers_text ns) in
    each_then (λ (n : ℤ × List ℕ). IsSmall n.0 × (byte ∷ text ≡ spelled (signed_decimal n.0 ∷ []) ++ n.1)) Is (signed_at (byte ∷ text)) (λ n. numbers_in most n.1 >>= λ numbers. Some (n.0 ∷ numbers)) (signed_reads.only (byte ∷ text))
    (λ n one. each_then (λ (ns : List ℤ). AreNumbers most ns × (n.1 ≡ numbers_text ns)) Is (numbers_in most n.1) (λ numbers. Some (n.0 ∷ numbers)) (numbers_only most n.1)
    (λ ns more. ((omega (arith, more.0.0), (one.0, more.0.1)), one.1 ∙ ap (λ (t : List ℕ). spelled (signed_decimal n.0 ∷ []) ++ t) more.1 ∙ sym (flat_map-append spaced (signed_decimal n.0 ∷ []) (map signed_decimal ns)))))

numbers_plain : (ns : List ℤ) → AllSmall ns → ArePlain (map signed_decimal ns)
numbers_plain [] small = tt
numbers_plain (n ∷ ns) small = (signed_plain n small.0, numbers_plain ns small.1)

numbers_read : ReadsAll (AreNumbers 32) (λ ns. map signed_decimal ns) (numbers_in 32)
numbers_read = record { back = numbers_back 32; only = numbers_only 32; plain = λ ns are. numbers_plain ns are.1 }

name_reads : ReadsWords (λ (name : List ℕ). is_name name ≡ true) (λ name. name ∷ []) (kind_at checked_name)
name_reads = kind_reads (λ (name : List ℕ). is_name name ≡ true) (λ name. name) checked_name checked name_is name_plain

abbrev IsNamed : List ℕ × List ℤ → Type 0
IsNamed x = (is_name x.0 ≡ true) × AreNumbers 32 x.1

abbrev named_words : List ℕ × List ℤ → List (List ℕ)
named_words x = x.0 ∷ map signed_decimal x.1

named_reads : ReadsAll IsNamed named_words named_in
unfolding named_in
named_reads = then_reads name_reads numbers_read

-- a face that stands on another
abbrev IsStanding : (ℤ × (ℤ × ℤ)) × Dir → Type 0
IsStanding x = (IsSmall x.0.0 × (IsSmall x.0.1.0 × IsSmall x.0.1.1)) × Any x.1

parent_reads : (faces : ℕ) → ReadsWords (λ (x : ℕ × Side). IsCount 0 faces x.0 × Any x.1) (λ x. number x.0 ∷ side_word x.1 ∷ []) (parent_at faces)
unfolding parent_at
parent_reads faces = both_reads (count_reads 0 faces) (any_kind side_word side_of side_back side_is side_plain)

standing_reads : ReadsAll IsStanding (λ x. signed_decimal x.0.0 ∷ signed_decimal x.0.1.0 ∷ signed_decimal x.0.1.1 ∷ dir_word x.1 ∷ []) standing_in
unfolding standing_in
standing_reads = alone_reads (both_reads (both_reads signed_reads pair_reads) (any_kind dir_word dir_of dir_back dir_is dir_plain))

abbrev Child : Type 0
Child = List ℕ × ((ℕ × Side) × ((ℤ × (ℤ × ℤ)) × Dir))

abbrev IsChild : ℕ → Child → Type 0
IsChild faces x = (is_name x.0 ≡ true) × ((IsCount 0 faces x.1.0.0 × Any x.1.0.1) × IsStanding x.1.1)

child_reads : (faces : ℕ) → ReadsAll (IsChild faces) (λ x. words_of (face_line (face_of x))) (then_in (kind_at checked_name) (then_in (parent_at faces) standing_in))
child_reads faces = then_reads name_reads (then_reads (parent_reads faces) standing_reads)

abbrev child_of : FaceData → Joint → Child
child_of f joint = (f.name, ((joint.on, joint.side), ((joint.at, (f.width, f.length)), joint.dir)))

is_child : (f : FaceData) (joint : Joint) → IsToldFace f (Some joint) → IsChild most_faces (child_of f joint)
is_child f joint is = (is.0.name, ((record { low = omega arith; high = is.1; short = is.0.on }, tt), ((is.0.at, (is.0.width, is.0.long)), tt)))

child_back : (f : FaceData) (joint : Joint) → f.joint ≡ Some joint → IsToldFace f (Some joint) → child_in most_faces (spelled (face_words f (Some joint))) ≡ Some f
unfolding child_in
child_back f joint has is =
    ap (λ (o : Option Child). o >>= λ x. Some (face_of x)) ((child_reads most_faces).back (child_of f joint) (is_child f joint is))
    ∙ ap (λ (j : Option Joint). Some (record { name = f.name; width = f.width; length = f.length; joint = j })) (sym has)

-- what is told of a face that is read
abbrev IsFace : List ℕ → FaceData → Type 0
IsFace text f = IsToldFace f f.joint × (text ≡ spelled (face_words f f.joint))

child_only : (text : List ℕ) → Each (IsFace text) (child_in most_faces text)
unfolding child_in
child_only text =
    each_then (λ (x : Child). IsChild most_faces x × (text ≡ spelled (words_of (face_line (face_of x))))) (IsFace text) (then_in (kind_at checked_name) (then_in (parent_at most_faces) standing_in) text) (λ x. Some (face_of x)) ((child_reads most_faces).only text)
    (λ x is. let parent = is.0.1.0.0 in let standing = is.0.1.1.0 in ((record { name = is.0.0; width = standing.1.0; long = standing.1.1; at = standing.0; on = parent.short }, parent.high), is.1))

abbrev two_of : ℤ × ℤ → List ℤ
two_of x = x.0 ∷ x.1 ∷ []

abbrev three_of : ℤ × ℤ × ℤ → List ℤ
three_of x = x.0 ∷ x.1 ∷ x.2 ∷ []

abbrev one_of : ℤ → List ℤ
one_of n = n ∷ []

abbrev four_of : Rect → List ℤ
four_of r = r.y0 ∷ r.y1 ∷ r.z0 ∷ r.z1 ∷ []

abbrev six_of : CostNumbers → List ℤ
six_of n = n.0.0 ∷ n.0.1 ∷ n.1.0.0 ∷ n.1.0.1 ∷ n.1.1.0 ∷ n.1.1.1 ∷ []

-- what is read of numbers, alone or behind a name
abbrev Inverts : {A : Type 0} → (A → List ℤ) → (List ℤ → Option A) → Type 0
Inverts to read = (ns : List ℤ) → Each (λ x. ns ≡ to x) (read ns)

one_number : Inverts one_of single
one_number (n ∷ []) = refl
one_number _ = tt

two_numbers : Inverts two_of pair
two_numbers (m ∷ n ∷ []) = refl
two_numbers _ = tt

three_numbers : Inverts three_of triple
three_numbers (l ∷ m ∷ n ∷ []) = refl
three_numbers _ = tt

four_numbers : Inverts four_of rect_of
four_numbers (y0 ∷ y1 ∷ z0 ∷ z1 ∷ []) = refl
four_numbers _ = tt

fixed_back : Inverts fixed_numbers fixed_of
fixed_back (x0 ∷ x1 ∷ y0 ∷ y1 ∷ z0 ∷ z1 ∷ []) = refl
fixed_back _ = tt

gauge_back : Inverts gauge_numbers gauge_of
gauge_back (a ∷ b ∷ c ∷ d ∷ e ∷ f ∷ g ∷ h ∷ []) = refl
gauge_back _ = tt

costs_back : Inverts six_of cost_numbers
costs_back (a ∷ b ∷ c ∷ d ∷ e ∷ f ∷ []) = refl
costs_back _ = tt

behind_name : {A : Type 0} (to : A → List ℤ) (read : List ℤ → Option A) → Inverts to read → (words : List ℕ × List ℤ) → Each (λ (x : List ℕ × A). words ≡ (x.0, to x.1)) (read words.1 >>= λ sizes. Some (words.0, sizes))
behind_name {A} to read inverts words =
    each_then (λ x. words.1 ≡ to x) (λ (x : List ℕ × A). words ≡ (x.0, to x.1)) (read words.1) (λ sizes. Some (words.0, sizes)) (inverts words.1) (λ x e. ap (λ (ns : List ℤ). (words.0, ns)) e)

abbrev ReadsNumbers : {A : Type 0} → (A → List ℤ) → (List ℤ → Option A) → Type 0
ReadsNumbers to read = ReadsAll (λ x. AreNumbers 32 (to x)) (λ x. map signed_decimal (to x)) (numbered read)

abbrev ReadsNamed : {A : Type 0} → (A → List ℤ) → (List ℤ → Option A) → Type 0
ReadsNamed {A} to read = ReadsAll (λ (x : List ℕ × A). IsNamed (x.0, to x.1)) (λ x. named_words (x.0, to x.1)) (named read)

numbers_are : {A : Type 0} (to : A → List ℤ) (read : List ℤ → Option A) → ((x : A) → read (to x) ≡ Some x) → Inverts to read → ReadsNumbers to read
unfolding numbered
numbers_are to read same inverts = made_reads read to same inverts numbers_read

names_are : {A : Type 0} (to : A → List ℤ) (read : List ℤ → Option A) → ((x : A) → read (to x) ≡ Some x) → Inverts to read → ReadsNamed to read
unfolding named
names_are {A} to read same inverts =
    made_reads (λ words. read words.1 >>= λ sizes. Some (words.0, sizes)) (λ x. (x.0, to x.1)) (λ x. ap (λ (o : Option A). o >>= λ sizes. Some (x.0, sizes)) (same x.1)) (behind_name to read inverts) named_reads

one_read : ReadsNumbers one_of single
one_read = numbers_are one_of single (λ n. refl) one_number

pair_read : ReadsNumbers two_of pair
pair_read = numbers_are two_of pair (λ x. refl) two_numbers

rect_read : ReadsNumbers four_of rect_of
rect_read = numbers_are four_of rect_of (λ r. refl) four_numbers

fixed_read : ReadsNumbers fixed_numbers fixed_of
fixed_read = numbers_are fixed_numbers fixed_of (λ f. refl) fixed_back

gauge_read : ReadsNumbers gauge_numbers gauge_of
gauge_read = numbers_are gauge_numbers gauge_of (λ g. refl) gauge_back

costs_read : ReadsNumbers six_of cost_numbers
costs_read = numbers_are six_of cost_numbers (λ n. refl) costs_back

named_pair_read : ReadsNamed two_of pair
named_pair_read = names_are two_of pair (λ x. refl) two_numbers

named_triple_read : ReadsNamed three_of triple
named_triple_read = names_are three_of triple (λ x. refl) three_numbers

root_only : (text : List ℕ) → Each (IsFace text) (root_in text)
unfolding root_in
root_only text = each_then (λ (x : List ℕ × (ℤ × ℤ)). IsNamed (x.0, two_of x.1) × (text ≡ spelled (named_words (x.0, two_of x.1)))) (IsFace text) (named pair text) (λ root. Some (root_of root)) (named_pair_read.only text) (λ root is. ((is.0.0, is.0.1.1), is.1))

root_back : (f : FaceData) → f.joint ≡ None → IsToldFace f None → root_in (spelled (face_words f None)) ≡ Some f
unfolding root_in
root_back f none is =
    ap (λ (o : Option (List ℕ × (ℤ × ℤ))). o >>= λ root. Some (root_of root)) (named_pair_read.back (f.name, (f.width, f.length)) (is.0, (omega arith, is.1)))
    ∙ ap (λ (j : Option Joint). Some (record { name = f.name; width = f.width; length = f.length; joint = j })) (sym none)

-- a face that stands on another isn't read as one that stands on none: a side is no number
no_side : (side : Side) (rest : List ℕ) → Ends rest → signed_at (spaced (side_word side) ++ rest) ≡ None
unfolding signed_at kind_at signed_of number_of
no_side N rest ends = rw (word_read (codes "N") rest refl ends) refl
no_side E rest ends = rw (word_read (codes "E") rest refl ends) refl
no_side S rest ends = rw (word_read (codes "S") rest refl ends) refl
no_side W rest ends = rw (word_read (codes "W") rest refl ends) refl

no_numbers : (on : ℕ) (side : Side) (rest : List ℕ) → IsShort on → Ends rest → numbers_in 32 (spaced (number on) ++ (spaced (side_word side) ++ rest)) ≡ None
no_numbers on side rest short ends =
    ap (λ (o : Option (ℤ × List ℕ)). o >>= λ n. numbers_in 31 n.1 >>= λ numbers. Some (n.0 ∷ numbers)) (signed_read (pos on) (spaced (side_word side) ++ rest) short refl)
    ∙ ap (λ (o : Option (ℤ × List ℕ)). (o >>= λ n. numbers_in 30 n.1 >>= λ numbers. Some (n.0 ∷ numbers)) >>= λ numbers. Some (pos on ∷ numbers)) (no_side side rest ends)

no_root : (name : List ℕ) (on : ℕ) (side : Side) (rest : List ℕ) → is_name name ≡ true → IsShort on → Ends rest → root_in (spaced name ++ (spaced (number on) ++ (spaced (side_word side) ++ rest))) ≡ None
unfolding root_in named named_in
no_root name on side rest is short ends = rw (kind_read checked_name name (spaced (number on) ++ (spaced (side_word side) ++ rest)) name (checked name is) (name_plain name is) refl, no_numbers on side rest short ends) refl

face_back : (f : FaceData) (joint : Option Joint) → f.joint ≡ joint → IsToldFace f joint → face_in (spelled (face_words f joint)) ≡ Some f
unfolding face_in
face_back f None has is = ap (λ (o : Option FaceData). option_or o (child_in most_faces (spelled (face_words f None)))) (root_back f has is)
face_back f (Some joint) has is =
    let text = spelled (face_words f (Some joint)) in
    let rest = spelled (signed_decimal joint.at ∷ signed_decimal f.width ∷ signed_decimal f.length ∷ dir_word joint.dir ∷ []) in
    ap (λ (o : Option FaceData). option_or o (child_in most_faces text)) (no_root f.name joint.on joint.side rest is.0.name is.0.on refl) ∙ child_back f joint has is

each_or : {A : Type 0} (P : A → Type 0) (x y : Option A) → Each P x → Each P y → Each P (option_or x y)
each_or P None y one two = two
each_or P (Some x) y one two = one

face_only : (text : List ℕ) → Each (IsFace text) (face_in text)
unfolding face_in
face_only text = each_or (IsFace text) (root_in text) (child_in most_faces text) (root_only text) (child_only text)

-- what is told of a line that is read, by its keyword and the text behind it
abbrev IsTold : List ℕ → List ℕ → CertLine → Type 0
IsTold keyword text line = IsJobLine line × (keyword ≡ keyword_of line) × (text ≡ spelled (words_of line))

-- a form reads nothing but the lines of its keyword
abbrev IsToldBy : Form → Type 0
IsToldBy one = (text : List ℕ) → Each (IsTold one.0 text) (one.1 text)

abbrev AreToldBy : List Form → Type 0
AreToldBy [] = Unit {0}
AreToldBy (one ∷ forms) = IsToldBy one × AreToldBy forms

told : {A : Type 0} {Fits : A → Type 0} {words : A → List (List ℕ)} {read : List ℕ → Option A} (keyword : List ℕ) (line : A → CertLine) → ReadsAll Fits words read → ((x : A) → Fits x → IsTold keyword (spelled (words x)) (line x)) → IsToldBy (form keyword read line)
told {A} {Fits} {words} {read} keyword line reads is text =
    each_then (λ (x : A). Fits x × (text ≡ spelled (words x))) (IsTold keyword text) (read text) (λ x. Some (line x)) (reads.only text) (λ x has. subst (λ (t : List ℕ). IsTold keyword t (line x)) (sym has.1) (is x has.0))

pieces_told : IsToldBy (form (codes "pieces") (numbered pieces_of) pieces_line)
unfolding numbered
pieces_told text =
    let Is : List ℤ → Type 0 = λ ps. (0 < length ps) × AreNumbers 32 ps × (text ≡ numbers_text ps) in
    each_then Is (IsTold (codes "pieces") text) (numbers_in 32 text >>= pieces_of) (λ ps. Some (pieces_line ps))
    (each_then (λ (ns : List ℤ). AreNumbers 32 ns × (text ≡ numbers_text ns)) Is (numbers_in 32 text) pieces_of (numbers_read.only text) some)
    (λ ps is. ((is.0, is.1.0, is.1.1), refl, is.2))
  where
    some : (ns : List ℤ) → AreNumbers 32 ns × (text ≡ numbers_text ns) → Each (λ (ps : List ℤ). (0 < length ps) × AreNumbers 32 ps × (text ≡ numbers_text ps)) (pieces_of ns)
    some [] is = tt
    some (n ∷ ns) is = (omega arith, is.0, is.1)

face_told : IsToldBy (form (codes "face") face_in face_line)
face_told text = each_then (IsFace text) (IsTold (codes "face") text) (face_in text) (λ face. Some (face_line face)) (face_only text) (λ face is. (is.0, refl, is.1))

infixr 4 ◌and◌
abbrev ◌and◌ : {P Q : Type 0} → P → Q → P × Q
p and q = (p, q)

number_forms_told : AreToldBy number_forms
number_forms_told =
    told (codes "bed") bed_line pair_read (λ x are. (are.1, refl, refl))
    and told (codes "frame") frame_line pair_read (λ x are. (are.1, refl, refl))
    and told (codes "upper") upper_line fixed_read (λ x are. (are.1, refl, refl))
    and told (codes "lower") lower_line fixed_read (λ x are. (are.1, refl, refl))
    and told (codes "uncovered") uncovered_line one_read (λ x are. (are.1, refl, refl))
    and told (codes "gauge") gauge_line gauge_read (λ x are. (are.1, refl, refl))
    and told (codes "cost") cost_line_of costs_read (λ x are. (are.1, refl, refl))
    and told (codes "gang") gang_line one_read (λ x are. (are.1, refl, refl))
    and told (codes "force") force_line one_read (λ x are. (are.1, refl, refl))
    and told (codes "fine") fine_line one_read (λ x are. (are.1, refl, refl))
    and told (codes "stage") (λ x. stage_line x.0 x.1) pair_read (λ x are. (are.1, refl, refl))
    and told (codes "box") box_line rect_read (λ x are. (are.1, refl, refl))
    and pieces_told
    and told (codes "load") (λ x. load_line x.0 x.1) pair_read (λ x are. (are.1, refl, refl))
    and tt

word_forms_told : AreToldBy word_forms
word_forms_told =
    told (codes "part") (λ x. part_line x.0 x.1.0 x.1.1 x.1.2) named_triple_read (λ x is. ((is.0, is.1.1), refl, refl))
    and face_told
    and told (codes "punch") (λ x. punch_line x.0 x.1.0 x.1.1) named_pair_read (λ x is. ((is.0, is.1.1), refl, refl))
    and told (codes "die") (λ x. die_line x.0 x.1.0 x.1.1 x.1.2) named_triple_read (λ x is. ((is.0, is.1.1), refl, refl))
    and tt

-- the line at a keyword
by_key : (keyword text : List ℕ) (forms : List Form) (other : List ℕ → List ℕ → Option CertLine) → AreToldBy forms → Each (IsTold keyword text) (other keyword text) → Each (IsTold keyword text) (by_form forms other keyword text)
by_key keyword text [] other told else_told = else_told
by_key keyword text (one ∷ forms) other told else_told = by_test (bytes_eq keyword one.0) refl (by_key keyword text forms other told.1 else_told)
  where
    by_test : (b : Bool) → bytes_eq keyword one.0 ≡ b → Each (IsTold keyword text) (by_form forms other keyword text) → Each (IsTold keyword text) (if b then one.1 text else by_form forms other keyword text)
    by_test true e more = subst (λ (w : List ℕ). Each (IsTold w text) (one.1 text)) (sym ((bytes_eq-Decides keyword one.0).0 e)) (told.0 text)
    by_test false e more = more

line_only : (text : List ℕ) → Each (λ (line : CertLine). IsJobLine line × (text ≡ line_bytes line)) (line_in text)
unfolding line_in words_line_in number_line_in
line_only text =
    let keyword = keyword_in text in
    let rest = behind_keyword text in
    each_weaker (IsTold keyword rest) (λ (line : CertLine). IsJobLine line × (text ≡ line_bytes line)) (by_form word_forms number_line_in keyword rest) (λ line is. (is.0, each_line text line is.1 is.2))
    (by_key keyword rest word_forms number_line_in word_forms_told (by_key keyword rest number_forms (λ keyword text. None) number_forms_told tt))

-- what is written is read
there : {A : Type 0} (line : A → CertLine) {o : Option A} {x : A} → o ≡ Some x → (o >>= λ y. Some (line y)) ≡ Some (line x)
there {A} line is = ap (λ (o : Option A). o >>= λ y. Some (line y)) is

pieces_back : (ps : List ℤ) → IsJobLine (pieces_line ps) → line_in (line_bytes (pieces_line ps)) ≡ Some (pieces_line ps)
unfolding line_in words_line_in number_line_in numbered
pieces_back [] is = absurd (omega (arith, is.0))
pieces_back (p ∷ ps) is = ap (λ (o : Option (List ℤ)). (o >>= pieces_of) >>= λ x. Some (pieces_line x)) (numbers_read.back (p ∷ ps) (is.1, is.2))

told_face_back : (f : FaceData) (joint : Option Joint) → f.joint ≡ joint → IsToldFace f joint → line_in (codes "face" ++ spelled (face_words f joint)) ≡ Some (face_line f)
unfolding line_in words_line_in
told_face_back f None has is = there face_line (face_back f None has is)
told_face_back f (Some joint) has is = there face_line (face_back f (Some joint) has is)

line_back : (line : CertLine) → IsJobLine line → line_in (line_bytes line) ≡ Some line
unfolding line_in words_line_in number_line_in
line_back (part_line m t r q) is = there (λ x. part_line x.0 x.1.0 x.1.1 x.1.2) (named_triple_read.back (m, (t, r, q)) (is.0, (omega arith, is.1)))
line_back (face_line f) is = told_face_back f f.joint refl is
line_back (bed_line b) is = there bed_line (pair_read.back b (omega arith, is))
line_back (frame_line b) is = there frame_line (pair_read.back b (omega arith, is))
line_back (upper_line f) is = there upper_line (fixed_read.back f (omega arith, is))
line_back (lower_line f) is = there lower_line (fixed_read.back f (omega arith, is))
line_back (uncovered_line n) is = there uncovered_line (one_read.back n (omega arith, is))
line_back (gauge_line g) is = there gauge_line (gauge_read.back g (omega arith, is))
line_back (cost_line a b c d e f) is = there cost_line_of (costs_read.back ((a, b), ((c, d), (e, f))) (omega arith, is))
line_back (gang_line n) is = there gang_line (one_read.back n (omega arith, is))
line_back (force_line n) is = there force_line (one_read.back n (omega arith, is))
line_back (fine_line n) is = there fine_line (one_read.back n (omega arith, is))
line_back (stage_line a b) is = there (λ x. stage_line x.0 x.1) (pair_read.back (a, b) (omega arith, is))
line_back (punch_line name h n) is = there (λ x. punch_line x.0 x.1.0 x.1.1) (named_pair_read.back (name, (h, n)) (is.0, (omega arith, is.1)))
line_back (die_line name h v l) is = there (λ x. die_line x.0 x.1.0 x.1.1 x.1.2) (named_triple_read.back (name, (h, v, l)) (is.0, (omega arith, is.1)))
line_back (box_line r) is = there box_line (rect_read.back r (omega arith, is))
line_back (pieces_line ps) is = pieces_back ps is
line_back (load_line a b) is = there (λ x. load_line x.0 x.1) (pair_read.back (a, b) (omega arith, is))
line_back _ is = absurd is

-- its words are plain
face_plain : (f : FaceData) (joint : Option Joint) → IsToldFace f joint → ArePlain (face_words f joint)
face_plain f None is = named_reads.plain (f.name, f.width ∷ f.length ∷ []) (is.0, (omega arith, is.1))
face_plain f (Some joint) is = (child_reads most_faces).plain (child_of f joint) (is_child f joint is)

line_plain : (line : CertLine) → IsJobLine line → ArePlain (words_of line)
line_plain (part_line m t r q) is = (name_plain m is.0, numbers_plain (t ∷ r ∷ q ∷ []) is.1)
line_plain (face_line f) is = face_plain f f.joint is
line_plain (bed_line b) is = numbers_plain (b.0 ∷ b.1 ∷ []) is
line_plain (frame_line b) is = numbers_plain (b.0 ∷ b.1 ∷ []) is
line_plain (upper_line f) is = numbers_plain (fixed_numbers f) is
line_plain (lower_line f) is = numbers_plain (fixed_numbers f) is
line_plain (uncovered_line n) is = numbers_plain (n ∷ []) is
line_plain (gauge_line g) is = numbers_plain (gauge_numbers g) is
line_plain (cost_line a b c d e f) is = numbers_plain (a ∷ b ∷ c ∷ d ∷ e ∷ f ∷ []) is
line_plain (gang_line n) is = numbers_plain (n ∷ []) is
line_plain (force_line n) is = numbers_plain (n ∷ []) is
line_plain (fine_line n) is = numbers_plain (n ∷ []) is
line_plain (stage_line a b) is = numbers_plain (a ∷ b ∷ []) is
line_plain (punch_line name h n) is = (name_plain name is.0, numbers_plain (h ∷ n ∷ []) is.1)
line_plain (die_line name h v l) is = (name_plain name is.0, numbers_plain (h ∷ v ∷ l ∷ []) is.1)
line_plain (box_line r) is = numbers_plain (r.y0 ∷ r.y1 ∷ r.z0 ∷ r.z1 ∷ []) is
line_plain (pieces_line ps) is = numbers_plain ps is.2
line_plain (load_line a b) is = numbers_plain (a ∷ b ∷ []) is
line_plain _ is = absurd is

pub job_lines_read : ReadsLines IsJobLine line_in
job_lines_read = record { back = line_back; only = line_only; plain = line_plain }
