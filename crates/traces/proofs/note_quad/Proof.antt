use Rattle.std.specs.Prelude.{◌≡◌, ◌≢◌, ◌+◌, ◌-◌, ◌≤◌}
use Rattle.laws.specs.Kit.{refl, ℕ, arith, rules, List, length}
use borrow.Rule.Slice.PartMut.{put_mid}
use Rattle.definition.specs.Cells.{was_placed}
use Rattle.traces.specs.Log.{heads}
use Rattle.traces.proofs.Logs.{log_none, log_quad, placed_within}
use Rattle.traces.proofs.Parts.{middle_length, put_length}
use Rattle.traces.proofs.note_quad.Statement.{statement}
use Rattle.traces.proofs.note_quad.Tie as tie

-- the entry's words are of the slice
within : (t : tie.Start) → length t.args.t.now ≢ 0 → t.args.at + (9 + t.args.n) ≤ length t.args.t.now
within t h =
    let a = t.args in
    let p = t.requires.0 in
    placed_within p.0 a.t.now a.w.now a.at a.from a.n a.g p.3 p.4 p.1 p.2 h p.5 p.6

abbrev top : tie.After-slice_known-2-1 → tie.Start
top c = c.before.before.before.before.before.before.before

-- the slice with the words before the slots
abbrev first : tie.After-slice_known-2-1 → List ℕ
first c =
    let a = (top c).args in
    put_mid a.at (length a.t.now - a.at) a.t.now c.write_quad.new.t

first_length : (c : tie.After-slice_known-2-1) → length (first c) ≡ length (top c).args.t.now
first_length c =
    let t = top c in
    let a = t.args in
    put_length (heads a.g a.n) a.t.now c.write_quad.new.t a.at (omega (arith, within t c.if-t-eq0.false))
    c.write_quad.ensures

returns : tie.Need-returns-then-t-eq0
returns c =
    let a = c.args in
    λ base m m' q ids h k. log_none base a.t.now a.at m m' (was_placed q ids) c.if-t-eq0.true h k.enters

mul_write_quad : tie.Need-offset_bounds-t-at
mul_write_quad c =
    let h = within c.before.before.before c.if-t-eq0.false in
    search rules

sub_write_quad : tie.Need-slice_bounds-write_quad-count
sub_write_quad c =
    omega (arith, within c.before.before.before c.if-t-eq0.false)

part_write_quad_start : tie.Need-slice_bounds-write_quad-start
part_write_quad_start c =
    omega (arith, within c.before.before.before c.if-t-eq0.false)

write_quad_requires : tie.Need-write_quad-requires
write_quad_requires c κs =
    let t = c in
    let a = t.args in
    (middle_length a.t.now a.at 9 (omega (arith, within t.before.before.before.before c.if-t-eq0.false)), t.requires.1)

add_slots : tie.Need-overflow_add-slots
add_slots c =
    let h = within (top c) c.if-t-eq0.false in
    search rules

mul_copy_words : tie.Need-offset_bounds-t-slots
mul_copy_words c =
    let h = within (top c) c.if-t-eq0.false in
    search rules

sub_copy_words : tie.Need-slice_bounds-copy_words-count
sub_copy_words c =
    let k = first_length c in
    omega (arith, k, within (top c) c.if-t-eq0.false)

part_copy_words_start : tie.Need-slice_bounds-copy_words-start
part_copy_words_start c =
    let k = first_length c in
    omega (arith, k, within (top c) c.if-t-eq0.false)

copy_words_requires : tie.Need-copy_words-requires
copy_words_requires c κs =
    let s = c in
    let t = top s.before in
    let k = first_length s.before in
    let h = within t s.if-t-eq0.false in
    (middle_length (first s.before) (t.args.at + 9) t.args.n (omega (arith, k, h)), t.requires.0.6.slots.fits)

add_result : tie.Need-overflow_add-result
add_result c =
    let s = c in
    let h = within (top s.before.before.before.before) s.if-t-eq0.false in
    search rules

returns_2 : tie.Need-returns
returns_2 c =
    let e = c in
    let s = e in
    let t = top s.before.before.before.before in
    let a = t.args in
    λ base m m' q ids h k.
    log_quad base a.t.now s.write_quad.new.t e.copy_words.new.t a.w.now a.at a.from a.n a.g q ids m m'
    s.if-t-eq0.false h k s.write_quad.ensures (first s.before.before.before.before) refl e.copy_words.ensures

pub note_quad_spec : {M : Type 1} → statement M
note_quad_spec =
    tie.close
    (tie.spec
    returns mul_write_quad sub_write_quad part_write_quad_start (λ c. search rules) write_quad_requires add_slots mul_copy_words sub_copy_words part_copy_words_start (λ c. search rules) copy_words_requires add_result (λ c. search rules) returns_2)
