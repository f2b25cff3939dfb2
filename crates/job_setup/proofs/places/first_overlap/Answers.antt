use Rattle.std.proofs.Common.{◌≡◌, ℕ, ◌+◌, ◌-◌, ◌<◌, ◌≤◌, map, length, Some, None, sym, ◌∙◌, ap, arith}
use Rattle.std.specs.Prelude.{find, option_map}
use Rattle.std.specs.List.{range_with_len}
use Rattle.unfolder.proofs.Finding.{find_flat_first, find_flat_none, find-map}
use Rattle.job_setup.specs.Setup.{stage_data}
use Rattle.job_setup.specs.Places.{is_overlap_of}
use Rattle.job_setup.proofs.places.first_overlap.Goals as goal

pub returns-in-Some : goal.returns-in-Some
returns-in-Some c =
    let p = is_overlap_of (map stage_data c.args.stages.now) in
    let after = λ (k : ℕ). range_with_len (k + 1) (length c.args.stages.now - (k + 1)) in
    let pieces = λ (k : ℕ). map (λ (b : ℕ). (k, b)) (after k) in
    let none : (k : ℕ) → 0 ≤ k → k < c.loop-a.a → find p (pieces k) ≡ None = λ k low high. find-map p (λ (b : ℕ). (k, b)) (after k) ∙ ap (option_map (λ (b : ℕ). (k, b))) (c.loop-a.invariant k high) in
    let here : find p (pieces c.loop-a.a) ≡ Some (c.loop-a.a, c.in-Some.b) = find-map p (λ (b : ℕ). (c.loop-a.a, b)) (after c.loop-a.a) ∙ ap (option_map (λ (b : ℕ). (c.loop-a.a, b))) (sym c.in-Some.ensures.value) in
    sym (find_flat_first p pieces 0 (length c.args.stages.now) c.loop-a.a (c.loop-a.a, c.in-Some.b) none here (omega arith) (omega arith))

pub returns : goal.returns
returns c =
    let p = is_overlap_of (map stage_data c.args.stages.now) in
    let after = λ (k : ℕ). range_with_len (k + 1) (length c.args.stages.now - (k + 1)) in
    let pieces = λ (k : ℕ). map (λ (b : ℕ). (k, b)) (after k) in
    let none : (k : ℕ) → 0 ≤ k → k < 0 + length c.args.stages.now → find p (pieces k) ≡ None = λ k low high. find-map p (λ (b : ℕ). (k, b)) (after k) ∙ ap (option_map (λ (b : ℕ). (k, b))) (c.loop-a.invariant k (omega arith)) in
    sym (find_flat_none p pieces 0 (length c.args.stages.now) none)
