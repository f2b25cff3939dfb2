-- What is wanted of a stage that is made of pieces.
use Rattle.machine_file.specs.Machine.{StageTextData}
use Rattle.job_setup.specs.Stages.{total}
use Rattle.setup_choice.specs.Setups.{StageWantData}

-- the wanted stage that a machine's stage is made for: it is as long as its pieces together
abbrev pub wanted_by : StageTextData → StageWantData
wanted_by text = record {
  punch = text.punch;
  die = text.die;
  at = text.at;
  length = total text.pieces;
}
