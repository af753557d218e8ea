-- The grid profile refuses, and changes no run: a call that 15 does not refuse returns
use Rattle.std.specs.Prelude.{◌≡◌, ◌∷◌}
use Rattle.laws.specs.Kit.{refl, sym, ap, inl, inr, false, ℕ, [], length}
use Rattle.definition.specs.Lists.{find}
use Rattle.definition.specs.Numbers.{max_attempts}
use Rattle.definition.specs.Front.{run_front}
use Rattle.definition.specs.Call.{Asked, Lent, given_points, given_tris, given_joints, given_locks, over_limit, bad_size, bad_stop, bad_quality, too_short, unknown_node, repeated_node, far_point, bad_grid, bad_joints, conditions, settings_within, settings, after_run, call_within, call}
use Rattle.laws.specs.Lists.{known}
use Rattle.consequences.specs.Profile.{off_profile}

same_conditions : (a : Asked) (l : Lent) → bad_grid a l ≡ false → conditions (off_profile a) l ≡ conditions a l
unfolding conditions off_profile over_limit bad_size bad_stop bad_quality too_short unknown_node repeated_node far_point bad_grid bad_joints given_joints given_tris given_points
same_conditions a l h i =
    (1, over_limit a) ∷ (2, bad_size a) ∷ (3, bad_stop a) ∷ (14, bad_quality a) ∷ (4, too_short a l) ∷ (5, unknown_node a l) ∷ (6, repeated_node a l) ∷ (7, far_point a l) ∷ (15, sym h i) ∷ (13, bad_joints a l) ∷ []

same_run : (most : ℕ) (a : Asked) (l : Lent) → run_front (settings_within most (length l.trace) (off_profile a)) (given_locks (off_profile a) l) (given_tris (off_profile a) l) (given_points (off_profile a) l) ≡ run_front (settings_within most (length l.trace) a) (given_locks a l) (given_tris a l) (given_points a l)
unfolding off_profile settings settings_within given_locks given_joints given_tris given_points
same_run most a l = refl

pub profile_changes_nothing : (a : Asked) (l : Lent) → bad_grid a l ≡ false → call (off_profile a) l ≡ call a l
unfolding call call_within settings off_profile
profile_changes_nothing a l h = elim (known (find (λ c. c.1) (conditions a l))) [
  | inl f ↦ rw (same_conditions a l h, f, call, call_within) (ap (after_run l) (same_run (max_attempts a.count) a l))
  | inr f ↦ rw (same_conditions a l h, f.1, call, call_within) refl
]
