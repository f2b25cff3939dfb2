-- The words of the lines behind the job: of the claim, of steps, of rows and of notes, each with
-- its range.
use Rattle.std.specs.Prelude.{ℕ, ◌+◌, ◌-◌, ◌^◌, ◌==◌, List, Option, if◌then◌else◌}
use Rattle.brake_base.specs.declared.plane.Quarter.{Quarter}
use Rattle.brake_base.specs.declared.stroke.Action.{Action}
use Rattle.brake_base.specs.declared.stroke.Gauge.{Gauge}
use Rattle.brake_base.specs.declared.stroke.Step.{Step}
use Rattle.brake_base.specs.declared.stroke.Key.{Key}
use Rattle.brake_base.specs.declared.stroke.Worth.{Worth}
use Rattle.brake_base.specs.declared.reason.Reason.{Reason}
use Rattle.brake_base.specs.declared.reason.Reason.TheVariants.{Cover, Rest, Frame, Upper, Nose}
use Rattle.brake_base.specs.declared.reason.Reason.TheVariants.{Lower, SelfHit, NoGauge, Load}
use Rattle.cert_words.specs.LineWords.{◌>>=◌, at_end, both_at, as_at, alone, then_in, as_in}
use Rattle.cert_words.specs.LineWords.{count_at, kind_at, back_of, half_of, quarter_of, worth_of}

-- an action of a job of so many bends and stages: its bend, the side at the back, and its stage
unfoldable pub action_at : ℕ → ℕ → List ℕ → Option (Action × List ℕ)
action_at bends stages text =
    as_at (λ x. record { bend = x.0; back = x.1.0; stage = x.1.1 })
    (both_at (count_at 1 (bends + 1)) (both_at (kind_at back_of) (count_at 0 stages))) text

-- the faces at the two fingers
unfoldable pub gauge_at : ℕ → List ℕ → Option (Gauge × List ℕ)
gauge_at bends text =
    as_at (λ x. record { left_face = x.0; right_face = x.1 })
    (both_at (count_at 0 (bends + 1)) (count_at 0 (bends + 1))) text

-- a step: its action, and the faces at the fingers
unfoldable pub step_in : ℕ → ℕ → List ℕ → Option Step
step_in bends stages text =
    alone (as_at (λ x. record { action = x.0; gauge = x.1 })
    (both_at (action_at bends stages) (gauge_at bends))) text

-- a claim
unfoldable pub claim_in : List ℕ → Option Worth
claim_in text = alone (kind_at worth_of) text

-- the mask, the attitude and the stage of a key of a job of so many bends and stages, at which a
-- bend isn't folded
unfoldable pub key_at : ℕ → ℕ → List ℕ → Option ((ℕ × ℕ × ℕ) × List ℕ)
key_at bends stages text =
    as_at (λ x. (x.0, x.1.0, x.1.1))
    (both_at (count_at 0 (2 ^ bends - 1)) (both_at (count_at 0 24) (count_at 0 stages))) text

-- a row: its key, and its worth
unfoldable pub row_in : ℕ → ℕ → List ℕ → Option (Key × Worth)
row_in bends stages text =
    alone (as_at (λ x. (
      record {
        mask = record { 0 = x.0.0 };
        attitude = x.0.1;
        stage = x.0.2;
      },
      x.1,
    )) (both_at (key_at bends stages) (kind_at worth_of))) text

-- a box of the part in a quarter, and a number below an end
unfoldable pub meeting_in : ℕ → List ℕ → Option (ℕ × Quarter × ℕ)
meeting_in end text =
    alone (as_at (λ x. (x.0, x.1.0, x.1.1))
    (both_at (count_at 0 25) (both_at (kind_at quarter_of) (count_at 0 end)))) text

-- the words of a reason of a kind
unfoldable pub arguments_in : ℕ → ℕ → List ℕ → Option Reason
arguments_in stages kind text = if kind == 1 then at_end Cover text
    else if kind == 2 then as_in (λ half. Rest half) (alone (kind_at half_of)) text
    else if kind == 3 then as_in (λ box. Frame box) (alone (count_at 0 25)) text
    else if kind == 4 then as_in (λ m. Upper m.0 m.1 m.2) (meeting_in 64) text
    else if kind == 5 then as_in (λ m. Nose m.0 m.1 m.2) (meeting_in stages) text
    else if kind == 6 then as_in (λ m. Lower m.0 m.1 m.2) (meeting_in 64) text
    else if kind == 7 then as_in (λ m. SelfHit m.0 m.1 m.2) (meeting_in 25) text
    else if kind == 8 then at_end NoGauge text
    else at_end Load text

-- a reason: the number of its kind, and what it names
unfoldable pub reason_in : ℕ → List ℕ → Option Reason
reason_in stages text = do
  kind ← count_at 1 10 text
  arguments_in stages kind.0 kind.1

-- an action, and a reason against it
unfoldable pub note_in : ℕ → ℕ → List ℕ → Option (Action × Reason)
note_in bends stages text = then_in (action_at bends stages) (reason_in stages) text
