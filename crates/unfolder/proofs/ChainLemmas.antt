-- Maps along the chain of parents, one bend at a time.
use Rattle.std.proofs.Common.{◌≡◌, ℕ, zero, suc, ◌<◌, ◌≤◌, List, length, refl, sym, ap, subst, arith}
use Rattle.std.specs.Prelude.{unwrap_or}
use Rattle.brake_base.specs.Turns.{Map, stay, after}
use Rattle.part_file.specs.declared.part.Joint.{Joint}
use Rattle.part_file.specs.Part.{PartData, FaceData, IsPart}
use Rattle.unfolder.specs.Cores.{joint_of, no_joint}
use Rattle.unfolder.specs.Chains.{steps_to_root, to_root}

-- each parent has a smaller number than its child
pub record AreEarlier (faces : List FaceData) : Type 0 where
  pub on : (b : ℕ) → 0 < b → b < length faces → (joint_of faces b).on < b

pub joint_of_part : (p : PartData) → IsPart p → AreEarlier p.faces
joint_of_part p part = record { on = λ b some inside. let known = (part.each_face b inside).placed.joined.joint some in let is = ap (λ o. unwrap_or o no_joint) known.1.has in subst (λ (j : Joint). j.on < b) (sym is) known.1.earlier }

-- more steps than the way has make no difference
enough_steps : (faces : List FaceData) (step : ℕ → Map) → AreEarlier faces → (n m f : ℕ) → f < length faces → f ≤ n → f ≤ m → steps_to_root faces step n f ≡ steps_to_root faces step m f
enough_steps faces step earlier zero zero zero inside few many = refl
enough_steps faces step earlier zero (suc m) zero inside few many = refl
enough_steps faces step earlier (suc n) zero zero inside few many = refl
enough_steps faces step earlier (suc n) (suc m) zero inside few many = refl
enough_steps faces step earlier zero m (suc f) inside few many = absurd (omega arith)
enough_steps faces step earlier (suc n) zero (suc f) inside few many = absurd (omega arith)
enough_steps faces step earlier (suc n) (suc m) (suc f) inside few many =
    let on : (joint_of faces (suc f)).on < suc f = earlier.on (suc f) (omega arith) inside in
    ap (λ M. after M (step (suc f))) (enough_steps faces step earlier n m (joint_of faces (suc f)).on (omega arith) (omega arith) (omega arith))

pub to_root-root : (faces : List FaceData) (step : ℕ → Map) → to_root faces step 0 ≡ stay
unfolding to_root
to_root-root faces step = refl

pub to_root-bend : (faces : List FaceData) (step : ℕ → Map) → AreEarlier faces → (b : ℕ) → 0 < b → b < length faces → to_root faces step b ≡ after (to_root faces step (joint_of faces b).on) (step b)
unfolding to_root
to_root-bend faces step earlier zero some inside = absurd (omega arith)
to_root-bend faces step earlier (suc b) some inside =
    let on : (joint_of faces (suc b)).on < suc b = earlier.on (suc b) some inside in
    ap (λ M. after M (step (suc b))) (enough_steps faces step earlier b (joint_of faces (suc b)).on (joint_of faces (suc b)).on (omega arith) (omega arith) (omega arith))
