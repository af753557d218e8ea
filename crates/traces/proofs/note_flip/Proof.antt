use Rattle.std.specs.Prelude.{◌≢◌, ◌+◌, ◌≤◌}
use Rattle.laws.specs.Kit.{refl, arith, rules, length}
use Rattle.definition.specs.Cells.{was_flipped}
use Rattle.definition.specs.Trace.{entry}
use Rattle.traces.proofs.Logs.{log_none, log_put, enters_within}
use Rattle.traces.proofs.Parts.{middle_length}
use Rattle.traces.proofs.note_flip.Statement.{statement}
use Rattle.traces.proofs.note_flip.Tie as tie

-- the entry's words are of the slice
within : (t : tie.Start) → length t.args.t.now ≢ 0 → t.args.at + 3 ≤ length t.args.t.now
unfolding entry
within t h =
    let a = t.args in
    let p = t.requires.0 in
    enters_within p.0 a.t.now a.at p.1 p.2 (was_flipped (a.u, a.v)) h p.3 p.4

returns : tie.Need-returns-then-t-eq0
returns c =
    let a = c.args in
    λ base m m' h k. log_none base a.t.now a.at m m' (was_flipped (a.u, a.v)) c.if-t-eq0.true h k

mul_write_flip : tie.Need-offset_bounds-t-at
mul_write_flip c =
    let h = within c.before.before c.if-t-eq0.false in
    search rules

sub_write_flip : tie.Need-slice_bounds-write_flip-count
sub_write_flip c =
    omega (arith, within c.before.before c.if-t-eq0.false)

part_write_flip_start : tie.Need-slice_bounds-write_flip-start
part_write_flip_start c =
    omega (arith, within c.before.before c.if-t-eq0.false)

write_flip_requires : tie.Need-write_flip-requires
write_flip_requires c κs =
    let t = c in
    let a = t.args in
    (middle_length a.t.now a.at 3 (within t.before.before.before c.if-t-eq0.false), t.requires.1)

add_result : tie.Need-overflow_add-result
add_result c =
    let s = c in
    let h = within s.before.before.before.before.before.before s.if-t-eq0.false in
    search rules

returns_2 : tie.Need-returns
unfolding entry
returns_2 c =
    let s = c in
    let t = s in
    let a = t.args in
    λ base m m' h k. log_put base a.t.now s.write_flip.new.t a.at (a.at + 3) m m' (was_flipped (a.u, a.v)) s.if-t-eq0.false h k refl s.write_flip.ensures

pub note_flip_spec : {M : Type 1} → statement M
note_flip_spec =
    tie.close
    (tie.spec
    returns mul_write_flip sub_write_flip part_write_flip_start (λ c. search rules) write_flip_requires add_result (λ c. search rules) returns_2)
