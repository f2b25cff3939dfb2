-- The bends of a stroke's group: being in one is symmetric, and two bends of one group are in each other's.
use Rattle.std.proofs.Common.{◌≡◌, ℕ, ◌<◌, ◌≤◌, Bool, true, false, not, ◌&&◌, ◌==◌, nat_le, nat_lt, cond, length, arith, refl, sym, ◌∙◌, ap}
use Rattle.std.proofs.lemmas.Bool.{and_parts, and_from, eq-eqb, eqb-true, lt-ltb, ltb-true, le-leb, leb-true, not-true, not_from_false}
use Rattle.part_file.specs.declared.part.Side.{Side}
use Rattle.part_file.specs.declared.part.Side.TheVariants.{N, E, S, W}
use Rattle.part_file.specs.declared.part.Dir.{Dir}
use Rattle.part_file.specs.declared.part.Dir.TheVariants.{Up, Down}
use Rattle.part_file.specs.declared.part.Joint.{Joint}
use Rattle.part_file.specs.Part.{same_side}
use Rattle.unfolder.specs.Cores.{joint_of}
use Rattle.fold_boxes.specs.Shapes.{ShapeData}
use Rattle.fold_boxes.specs.Groups.{same_direction, same_joint, is_mate}
use Rattle.job_setup.specs.Setup.{JobData, shape_of, bend_count}

side_is : (s t : Side) → same_side s t ≡ true → s ≡ t
side_is N N e = refl
side_is N E e = absurd cc
side_is N S e = absurd cc
side_is N W e = absurd cc
side_is E N e = absurd cc
side_is E E e = refl
side_is E S e = absurd cc
side_is E W e = absurd cc
side_is S N e = absurd cc
side_is S E e = absurd cc
side_is S S e = refl
side_is S W e = absurd cc
side_is W N e = absurd cc
side_is W E e = absurd cc
side_is W S e = absurd cc
side_is W W e = refl

side_self : (s : Side) → same_side s s ≡ true
side_self N = refl
side_self E = refl
side_self S = refl
side_self W = refl

direction_is : (d e : Dir) → same_direction d e ≡ true → d ≡ e
direction_is Up Up same = refl
direction_is Down Down same = refl
direction_is Up Down same = absurd cc
direction_is Down Up same = absurd cc

direction_self : (d : Dir) → same_direction d d ≡ true
direction_self Up = refl
direction_self Down = refl

-- the joints have one parent, side and direction
record IsAlike (a b : Joint) : Type 0 where
  on : a.on ≡ b.on
  side : a.side ≡ b.side
  dir : a.dir ≡ b.dir

alike : (a b : Joint) → same_joint a b ≡ true → IsAlike a b
alike a b same =
    let parts = and_parts (b.on == a.on) (same_side b.side a.side && same_direction b.dir a.dir) same in
    let rest = and_parts (same_side b.side a.side) (same_direction b.dir a.dir) parts.1 in
    record { on = sym (eqb-true b.on a.on parts.0); side = sym (side_is b.side a.side rest.0); dir = sym (direction_is b.dir a.dir rest.1) }

from_alike : (a b : Joint) → IsAlike a b → same_joint a b ≡ true
from_alike a b h =
    and_from (b.on == a.on) (same_side b.side a.side && same_direction b.dir a.dir) (eq-eqb b.on a.on (sym h.on))
    (and_from (same_side b.side a.side) (same_direction b.dir a.dir) (ap (λ s. same_side b.side s) h.side ∙ side_self b.side) (ap (λ d. same_direction b.dir d) h.dir ∙ direction_self b.dir))

record IsMate (shape : ShapeData) (b c : ℕ) : Type 0 where
  first : 1 ≤ c
  last : c < length shape.part.faces
  alike : IsAlike (joint_of shape.part.faces b) (joint_of shape.part.faces c)

mate_is : (shape : ShapeData) (b c : ℕ) → is_mate shape b c ≡ true → IsMate shape b c
mate_is shape b c mate =
    let parts = and_parts (nat_le 1 c && nat_lt c (length shape.part.faces)) (same_joint (joint_of shape.part.faces b) (joint_of shape.part.faces c)) mate in
    let range = and_parts (nat_le 1 c) (nat_lt c (length shape.part.faces)) parts.0 in
    record { first = leb-true 1 c range.0; last = ltb-true c (length shape.part.faces) range.1; alike = alike _ _ parts.1 }

mate_from : (shape : ShapeData) (b c : ℕ) → IsMate shape b c → is_mate shape b c ≡ true
mate_from shape b c mate =
    and_from (nat_le 1 c && nat_lt c (length shape.part.faces)) (same_joint (joint_of shape.part.faces b) (joint_of shape.part.faces c))
    (and_from (nat_le 1 c) (nat_lt c (length shape.part.faces)) (le-leb 1 c mate.first) (lt-ltb c (length shape.part.faces) mate.last))
    (from_alike (joint_of shape.part.faces b) (joint_of shape.part.faces c) mate.alike)

-- a bend is a mate of itself
pub self_mate : (shape : ShapeData) (b : ℕ) → 1 ≤ b → b < length shape.part.faces → is_mate shape b b ≡ true
self_mate shape b first last = mate_from shape b b (record { first = first; last = last; alike = record { on = refl; side = refl; dir = refl } })

mate_back : (shape : ShapeData) (b c : ℕ) → 1 ≤ b → b < length shape.part.faces → is_mate shape b c ≡ true → is_mate shape c b ≡ true
mate_back shape b c first last mate =
    let m = (mate_is shape b c mate).alike in
    mate_from shape c b (record { first = first; last = last; alike = record { on = sym m.on; side = sym m.side; dir = sym m.dir } })

mates_shared : (shape : ShapeData) (a b c : ℕ) → is_mate shape a b ≡ true → is_mate shape a c ≡ true → is_mate shape b c ≡ true
mates_shared shape a b c one other =
    let m = (mate_is shape a b one).alike in
    let n = mate_is shape a c other in
    mate_from shape b c (record { first = n.first; last = n.last; alike = record { on = sym m.on ∙ n.alike.on; side = sym m.side ∙ n.alike.side; dir = sym m.dir ∙ n.alike.dir } })

-- whether c is in the group of b, for a job with and for one without gangs
abbrev pub grouped : Bool → JobData → (ℕ → Bool) → ℕ → ℕ → Bool
grouped gang job folded b c = cond gang (is_mate (shape_of job) b c && not (folded c)) (c == b)

module _ (job : JobData) (folded : ℕ → Bool) where
  pub grouped_back : (gang : Bool) (b c : ℕ) → 1 ≤ b → b ≤ bend_count job → folded b ≡ false → grouped gang job folded b c ≡ true → grouped gang job folded c b ≡ true
  grouped_back true b c first last flat within =
      let parts = and_parts (is_mate (shape_of job) b c) (not (folded c)) within in
      and_from (is_mate (shape_of job) c b) (not (folded b)) (mate_back (shape_of job) b c first (omega arith) parts.0) (not_from_false (folded b) flat)
  grouped_back false b c first last flat within = eq-eqb b c (sym (eqb-true c b within))

  pub grouped_flat : (gang : Bool) (b c : ℕ) → folded b ≡ false → grouped gang job folded b c ≡ true → folded c ≡ false
  grouped_flat true b c flat within = not-true (folded c) (and_parts (is_mate (shape_of job) b c) (not (folded c)) within).1
  grouped_flat false b c flat within = ap folded (eqb-true c b within) ∙ flat

  pub grouped_shared : (gang : Bool) (a b c : ℕ) → grouped gang job folded a b ≡ true → grouped gang job folded a c ≡ true → grouped gang job folded b c ≡ true
  grouped_shared true a b c one other =
      let first = and_parts (is_mate (shape_of job) a b) (not (folded b)) one in
      let second = and_parts (is_mate (shape_of job) a c) (not (folded c)) other in
      and_from (is_mate (shape_of job) b c) (not (folded c)) (mates_shared (shape_of job) a b c first.0 second.0) second.1
  grouped_shared false a b c one other = eq-eqb c b (eqb-true c a other ∙ sym (eqb-true b a one))

  pub grouped_range : (gang : Bool) (b c : ℕ) → 1 ≤ b → b ≤ bend_count job → grouped gang job folded b c ≡ true → (1 ≤ c) × (c ≤ bend_count job)
  grouped_range true b c first last within =
      let mate = mate_is (shape_of job) b c (and_parts (is_mate (shape_of job) b c) (not (folded c)) within).0 in
      (mate.first, omega (arith, mate.last))
  grouped_range false b c first last within = let same = eqb-true c b within in (omega (arith, same), omega (arith, same))

  pub grouped_self : (gang : Bool) (b : ℕ) → 1 ≤ b → b ≤ bend_count job → folded b ≡ false → grouped gang job folded b b ≡ true
  grouped_self true b first last flat =
      and_from (is_mate (shape_of job) b b) (not (folded b)) (self_mate (shape_of job) b first (omega arith)) (not_from_false (folded b) flat)
  grouped_self false b first last flat = eq-eqb b b refl

kept_out : (mate was is : Bool) → ((mate && not was) ≡ true → is ≡ false) → (mate ≡ true → was ≡ true → is ≡ true) → (mate && not is) ≡ (mate && not was)
kept_out false was is stays keeps = refl
kept_out true true is stays keeps = rw (keeps refl refl) refl
kept_out true false is stays keeps = rw (stays refl) refl

-- a group stays as it was where none of its bends is folded, and no folded bend is unfolded
pub regrouped : (job : JobData) (folded after : ℕ → Bool) (gang : Bool) (b c : ℕ) → (grouped gang job folded b c ≡ true → after c ≡ false) → (1 ≤ c → c ≤ bend_count job → folded c ≡ true → after c ≡ true)
    → grouped gang job after b c ≡ grouped gang job folded b c
regrouped job folded after true b c stays keeps =
    kept_out (is_mate (shape_of job) b c) (folded c) (after c) stays (λ mate. let m = mate_is (shape_of job) b c mate in keeps m.first (omega (arith, m.last)))
regrouped job folded after false b c stays keeps = refl
