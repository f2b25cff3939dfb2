use Rattle.std.proofs.Common.{rules, refl, ◌≡◌, ◌++◌, [], take, subst, sym, ap, ◌∙◌, append-nil, drop_of_length-le}
use Rattle.std.specs.Io.KnownBytes.{Appends}
use Rattle.std.proofs.KnownBytes.{Appends-nil, Appends-trans}
use Rattle.brake_io.proofs.Fronts.{move_front, AppendsPart-write}
use Rattle.brake_io.proofs.whole.write_whole.Goals as goal

pub loop-rest-init : goal.loop-rest-init
loop-rest-init g c = ([], refl, Appends-nil _)

pub loop-rest-preserved : goal.loop-rest-preserved
loop-rest-preserved g c =
    let (done, split, appended) = c.loop-rest.invariant in
    let rest = c.loop-rest.rest.now in
    (done ++ take c.in-Ok.n rest, move_front _ done rest c.in-Ok.n split, Appends-trans _ _ _ _ _ appended c.in-Ok.ensures.bytes)

pub returns-in-Ok-eq0-clause-part : goal.returns-in-Ok-eq0-clause-part
returns-in-Ok-eq0-clause-part g c =
    let (done, split, appended) = c.loop-rest.invariant in
    AppendsPart-write _ _ _ c.write.result _ done c.loop-rest.rest.now split appended c.write.ensures.bytes

pub returns-in-Ok-eq0-2-clause-part : goal.returns-in-Ok-eq0-2-clause-part
returns-in-Ok-eq0-2-clause-part g c =
    let (done, split, appended) = c.loop-rest.invariant in
    AppendsPart-write _ _ _ c.write.result _ done c.loop-rest.rest.now split appended c.write.ensures.bytes

pub returns-clause-all : goal.returns-clause-all
returns-clause-all g c =
    let (done, split, appended) = c.loop-rest.invariant in
    let rest = c.loop-rest.rest.now in
    let empty : rest ≡ [] = drop_of_length-le rest {i = 0} (search rules) in
    subst (Appends _ _) (sym (split ∙ ap (λ l. done ++ l) empty ∙ append-nil done)) appended
