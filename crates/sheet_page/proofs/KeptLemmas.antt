-- Kinds of reasons by number.
use Rattle.std.proofs.Common.{◌≤◌, ◌<◌, arith}
use Rattle.brake_base.specs.declared.reason.Reason.{Reason}
use Rattle.brake_base.specs.declared.reason.Reason.TheVariants.{Cover, Rest, Frame, Upper, Nose}
use Rattle.brake_base.specs.declared.reason.Reason.TheVariants.{Lower, SelfHit, NoGauge, Load}
use Rattle.brake_base.specs.Reasons.{kind_of}

pub kind_some : (reason : Reason) → 0 < kind_of reason
kind_some Cover = omega arith
kind_some (Rest half) = omega arith
kind_some (Frame box) = omega arith
kind_some (Upper box quarter index) = omega arith
kind_some (Nose box quarter stage) = omega arith
kind_some (Lower box quarter index) = omega arith
kind_some (SelfHit box quarter other) = omega arith
kind_some NoGauge = omega arith
kind_some Load = omega arith

pub kind_low : (reason : Reason) → kind_of reason ≤ 9
kind_low Cover = omega arith
kind_low (Rest half) = omega arith
kind_low (Frame box) = omega arith
kind_low (Upper box quarter index) = omega arith
kind_low (Nose box quarter stage) = omega arith
kind_low (Lower box quarter index) = omega arith
kind_low (SelfHit box quarter other) = omega arith
kind_low NoGauge = omega arith
kind_low Load = omega arith

pub ruleset kinds = (kind_some, kind_low)
