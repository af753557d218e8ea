-- A double is read back from its two words.
use Rattle.std.specs.Prelude.{◌≡◌, ◌+◌, ◌*◌, ◌/◌, ◌%◌, ◌<◌, ◌≤◌, ◌∷◌, ◌++◌}
use Rattle.laws.specs.Kit.{refl, sym, ◌∙◌, ap, inl, inr, ℕ, zero, suc, arith, T, le-leb, List, [], length, length-append, Float, binary64, of_bits, to_bits, fits}
use Rattle.std.proofs.Common.{div-add-mod'}
use Rattle.std.proofs.Math.Seq.{take-append_seam, drop-append_seam}
use Rattle.std.specs.Float.Ieee.Bits.{of_bits-to_bits}
use Rattle.definition.specs.Lists.{flat_map}
use Rattle.definition.specs.Floats.{f64}
use Rattle.definition.specs.Numbers.{Settings}
use Rattle.definition.specs.Plane.{flat}
use Rattle.definition.specs.Cells.{Event, was_split, was_flipped, was_placed, Mesh}
use Rattle.definition.specs.Trace.{word_limit, two_words, double_of, entry, trace}
use Rattle.definition.specs.Replay.{reading, word, is_kind, entered_quad, read_entry, Redone, redone, balked, redo, whole, replay_in}
use Rattle.laws.specs.Lists.{In}
use Rattle.account.specs.Redo.{redo_all, Enterable}

-- ---- an entry is read back
pub double_back : (x : Float) → T (fits binary64 x) → double_of (to_bits binary64 x % word_limit) (to_bits binary64 x / word_limit) ≡ x
unfolding double_of f64 word_limit
double_back x h =
    let n = to_bits binary64 x in
    let e : n % 4294967296 + 4294967296 * (n / 4294967296) ≡ n = omega (arith, div-add-mod' n 4294967296) in
    ap (of_bits binary64) e ∙ of_bits-to_bits binary64 x h
