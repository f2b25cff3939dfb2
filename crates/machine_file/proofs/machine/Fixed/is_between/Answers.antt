use Rattle.std.proofs.Common.{◌≡◌}
use Rattle.std.proofs.lemmas.Bool.Decides.{Decides-at}
use Rattle.std.proofs.lemmas.Int.{to_z-of_z}
use Rattle.machine_file.specs.MachineFile.{is_fixed}
use Rattle.machine_file.proofs.Decided.{fixed_decided}
use Rattle.machine_file.proofs.machine.Fixed.is_between.Goals as goal

pub returns : goal.returns
returns c =
    let low_fits = c.ranges.low in
    let high_fits = c.ranges.high in
    let same : c.is_fixed.result ≡ is_fixed c.args.low c.args.high c.args.self.now = simp to_z-of_z at c.is_fixed.ensures in
    Decides-at _ _ same (fixed_decided c.args.low c.args.high c.args.self.now)
