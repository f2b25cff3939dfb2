-- The motion of the sheet and of the lower tools during a bend: ideal air bending, in which the
-- sheet touches the punch's tip and the die's two edges as points, without springback. Nothing here
-- speaks of how the code covers or tests the motion.
use Rattle.std.specs.Prelude.{◌≡◌, ℤ, pos, ◌+ℤ◌, ◌-ℤ◌, ◌*ℤ◌, ◌≤ℤ◌, ◌<ℤ◌}
use Rattle.brake_base.specs.declared.plane.Rat2.{Rat2}

-- The turn whose cosine is a/c and whose sine is b/c.
pub record Triple : Type 0 where
  pub a : ℤ
  pub b : ℤ
  pub c : ℤ

-- A turn of 0 to 45 degrees, which each half of the sheet makes. (Rational turns lie dense among
-- all.)
pub record IsTriple (t : Triple) : Type 0 where
  pub squares : t.a *ℤ t.a +ℤ t.b *ℤ t.b ≡ t.c *ℤ t.c
  pub positive : pos 0 <ℤ t.c
  pub upward : pos 0 ≤ℤ t.b
  pub half_right : t.b ≤ℤ t.a

-- A turn of 0 to 90 degrees, which one half makes against the other.
pub record IsWideTriple (t : Triple) : Type 0 where
  pub squares : t.a *ℤ t.a +ℤ t.b *ℤ t.b ≡ t.c *ℤ t.c
  pub positive : pos 0 <ℤ t.c
  pub upward : pos 0 ≤ℤ t.b
  pub right : pos 0 ≤ℤ t.a

-- The rational point, turned counterclockwise about the origin.
abbrev pub turned : Triple → Rat2 → Rat2
turned t p = record {
  y = t.a *ℤ p.y -ℤ t.b *ℤ p.z;
  z = t.b *ℤ p.y +ℤ t.a *ℤ p.z;
  d = t.c *ℤ p.d;
}

-- At that turn the lower tools may stand risen by e/d micrometres. With a sheet of the given
-- thickness and half the die's opening V they rise to at most (V/2)*tan - thickness*(1/cos - 1).
pub record IsRise (thickness half_opening : ℤ) (t : Triple) (e d : ℤ) : Type 0 where
  pub positive : pos 0 <ℤ d
  pub risen : pos 0 ≤ℤ (e *ℤ t.a)
  pub limit : (e *ℤ t.a) ≤ℤ ((half_opening *ℤ t.b -ℤ thickness *ℤ (t.c -ℤ t.a)) *ℤ d)
