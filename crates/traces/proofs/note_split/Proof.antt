use Rattle.std.specs.Prelude.{◌≢◌, ◌+◌, ◌≤◌}
use Rattle.laws.specs.Kit.{refl, arith, rules, length}
use Rattle.definition.specs.Plane.{flat}
use Rattle.definition.specs.Cells.{was_split}
use Rattle.definition.specs.Trace.{two_words, entry}
use Rattle.traces.proofs.Logs.{log_none, log_put, enters_within}
use Rattle.traces.proofs.Parts.{middle_length}
use Rattle.traces.proofs.note_split.Statement.{statement}
use Rattle.traces.proofs.note_split.Tie as tie

-- the entry's words are of the slice
within : (t : tie.Start) → length t.args.t.now ≢ 0 → t.args.at + 6 ≤ length t.args.t.now
unfolding entry two_words
within t h =
    let a = t.args in
    let p = t.requires.0 in
    enters_within p.0 a.t.now a.at p.1 p.2 (was_split a.i (flat a.x a.y)) h p.3 p.4

returns : tie.Need-returns-then-t-eq0
returns c =
    let a = c.args in
    λ base m m' h k. log_none base a.t.now a.at m m' (was_split a.i (flat a.x a.y)) c.if-t-eq0.true h k

mul_write_split : tie.Need-offset_bounds-t-at
mul_write_split c =
    let h = within c.before.before c.if-t-eq0.false in
    search rules

sub_write_split : tie.Need-slice_bounds-write_split-count
sub_write_split c =
    omega (arith, within c.before.before c.if-t-eq0.false)

part_write_split_start : tie.Need-slice_bounds-write_split-start
part_write_split_start c =
    omega (arith, within c.before.before c.if-t-eq0.false)

write_split_requires : tie.Need-write_split-requires
write_split_requires c κs =
    let t = c in
    let a = t.args in
    (middle_length a.t.now a.at 6 (within t.before.before.before c.if-t-eq0.false), t.requires.1)

add_result : tie.Need-overflow_add-result
add_result c =
    let s = c in
    let h = within s.before.before.before.before.before.before s.if-t-eq0.false in
    search rules

returns_2 : tie.Need-returns
unfolding entry two_words
returns_2 c =
    let s = c in
    let t = s in
    let a = t.args in
    λ base m m' h k. log_put base a.t.now s.write_split.new.t a.at (a.at + 6) m m' (was_split a.i (flat a.x a.y)) s.if-t-eq0.false h k refl s.write_split.ensures

pub note_split_spec : {M : Type 1} → statement M
note_split_spec =
    tie.close
    (tie.spec
    returns mul_write_split sub_write_split part_write_split_start (λ c. search rules) write_split_requires add_result (λ c. search rules) returns_2)
