-- The grid profile refuses, and changes no run: a call that 15 does not refuse returns
-- what it returns without the profile.
use Rattle.std.specs.Prelude.{◌≡◌, ◌∷◌}
use Rattle.laws.specs.Kit.{refl, sym, ap, inl, inr, false, ℕ, [], length}
use Rattle.definition.specs.Lists.{find}
use Rattle.definition.specs.Numbers.{max_attempts}
use Rattle.definition.specs.Front.{run_front}
use Rattle.definition.specs.Call.{Asked, Lent, given_points, given_tris, given_joints, given_locks, over_limit, bad_size, bad_stop, bad_quality, too_short, unknown_node, repeated_node, far_point, bad_grid, bad_joints, conditions, settings_within, settings, after_run, call_within, call}
use Rattle.laws.specs.Lists.{known}

-- the stated numbers with the profile not chosen
unfoldable pub off_profile : Asked → Asked
off_profile a =
    record { given = a.given; capacity = a.capacity; count = a.count; slots = a.slots; joints = a.joints; size = a.size; stop = a.stop; quality = a.quality; grid = false }
