-- Boxes and obstacles that lie apart along the bed.
use Rattle.std.specs.Prelude.{◌≡◌, Bool, false, List, All}
use Rattle.fold_boxes.specs.declared.posed_part.PoseBox.{PoseBox}
use Rattle.job_setup.specs.declared.obstacle.Obstacle.{Obstacle}
use Rattle.job_setup.specs.Places.{is_overlap}

-- whether the ranges of the box and the obstacle along the bed share an interior point
abbrev pub is_along : PoseBox → Obstacle → Bool
is_along box obstacle =
    is_overlap (box.body.lo.x, box.body.hi.x) (obstacle.x0, obstacle.x1)

-- none of the obstacles lies along the bed where the box does
abbrev pub AreApart : PoseBox → List Obstacle → Type 0
AreApart box obstacles = All (λ obstacle. is_along box obstacle ≡ false) obstacles
