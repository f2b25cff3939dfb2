-- The four cases of the clear test, put together from two pairs.
use Rattle.std.proofs.Common.{inl, inr, ◌↔◌, Bool, IsTrue}
use Rattle.brake_base.specs.declared.plane.Rect.{Rect}
use Rattle.sector_geom.specs.declared.sector.Sector.{Sector}
use Rattle.sector_geom.specs.Covers.{IsCover}
use Rattle.sector_geom.specs.Clear.{IsClear, IsApart}
use Rattle.sector_geom.specs.SpecialPoints.{IsBeside, IsPast}
use Rattle.sector_geom.proofs.ClearLaw.{clear_law}
use Rattle.sector_geom.proofs.CoverShape.{testable}

pub clear_past : (s : Sector) (r : Rect) → IsPast s r → IsClear s r
clear_past s r past = inr (inr past)

-- Where it isn't beside the wedge, the other two cases decide.
pub clear_if_past : (s : Sector) (r : Rect) (b : Bool) → (IsBeside s r → ⊥) → (IsTrue b ↔ IsPast s r) → IsTrue b ↔ IsClear s r
clear_if_past s r b off e = (λ t. clear_past s r (e.0 t), back)
  where
    back : IsClear s r → IsTrue b
    back (inl x) = absurd (off (inl x))
    back (inr (inl x)) = absurd (off (inr x))
    back (inr (inr x)) = e.1 x

-- The clear law for covers.
pub apart : (s : Sector) (r : Rect) → IsCover s → IsClear s r → IsApart s r
apart s r cover h = clear_law s r (testable s cover).sound h
