use Rattle.std.proofs.Common.{◌≡◌, ◌∙◌, ap, sym, map, w64, SFits, rules}
use Rattle.std.proofs.lemmas.Int.{to_z-of_z}
use Rattle.std.specs.Prelude.{option_map}
use Rattle.unfolder.proofs.Finding.{find-map}
use Rattle.part_file.specs.Part.{part_data}
use Rattle.tool_library.specs.Tools.{load_data}
use Rattle.job_setup.specs.Loads.{is_load_for, load_of, stage_load}
use Rattle.job_setup.proofs.loads.stage_load.Goals as goal

pub returns-in-Some : goal.returns-in-Some
returns-in-Some c =
    let part = part_data c.args.part.now in
    let fits : SFits w64 c.in-Some.row.now.load = search rules in
    let plain : c.in-Some.row.now.load ≡ stage_load part (map load_data c.args.loads.now) c.args.die.now.v = ap load_of (ap (option_map load_data) c.in-Some.ensures ∙ sym (find-map (is_load_for part c.args.die.now.v) load_data c.args.loads.now)) in
    simp to_z-of_z plain

pub returns-in-None : goal.returns-in-None
returns-in-None c = ap load_of (ap (option_map load_data) c.in-None.ensures ∙ sym (find-map (is_load_for (part_data c.args.part.now) c.args.die.now.v) load_data c.args.loads.now))
