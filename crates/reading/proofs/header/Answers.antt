-- `header`: the line of names, then four values, each with its byte.
use Rattle.reading.proofs.Chains.{refused}
use Rattle.reading.proofs.Heads.{no_names, no_triangles, no_points, no_size, no_rule, all_read, within}
use Rattle.definition.specs.Text.{bytes, hex, one_digit}
use Rattle.reading.specs.Found.{itself, up_to}
use Rattle.reading.proofs.header.Goals as goal

pub returns-in_err-line-clause-reads : goal.returns-in_err-line-clause-reads
unfolding bytes
returns-in_err-line-clause-reads c =
    refused _ _ c.from_residual.ensures (no_names c.args.s.now c.in_err-line.ensures)

pub returns-in_err-triangles-clause-reads : goal.returns-in_err-triangles-clause-reads
unfolding bytes
returns-in_err-triangles-clause-reads c =
    let l = c.in_ok-line in
    refused _ _ c.from_residual-in_err-triangles.ensures (no_triangles c.args.s.now l.line.now l.ensures (c.in_err-triangles.ensures itself (up_to 64) l.line.now c.decimal.ensures))

pub returns-in_err-points-clause-reads : goal.returns-in_err-points-clause-reads
unfolding bytes
returns-in_err-points-clause-reads c =
    let l = c.in_ok-line in
    let t = c.in_ok-triangles in
    refused _ _ c.from_residual-in_err-points.ensures (no_points c.args.s.now l.line.now l.ensures t.triangles t.after_triangles.now (t.ensures itself (up_to 64) l.line.now c.decimal.ensures) (c.in_err-points.ensures itself (up_to 64) t.after_triangles.now c.decimal-2.ensures))

pub returns-in_err-size-clause-reads : goal.returns-in_err-size-clause-reads
unfolding bytes
returns-in_err-size-clause-reads c =
    let l = c.in_ok-line in
    let t = c.in_ok-triangles in
    let p = c.in_ok-points in
    refused _ _ c.from_residual-in_err-size.ensures (no_size c.args.s.now l.line.now l.ensures t.triangles t.after_triangles.now (t.ensures itself (up_to 64) l.line.now c.decimal.ensures) p.points p.after_points.now (p.ensures itself (up_to 64) t.after_triangles.now c.decimal-2.ensures) (c.in_err-size.ensures itself hex p.after_points.now c.bits.ensures))

pub returns-in_err-stop-clause-reads : goal.returns-in_err-stop-clause-reads
unfolding bytes
returns-in_err-stop-clause-reads c =
    let l = c.in_ok-line in
    let t = c.in_ok-triangles in
    let p = c.in_ok-points in
    let s = c.in_ok-size in
    refused _ _ c.from_residual-in_err-stop.ensures (no_rule c.args.s.now l.line.now l.ensures t.triangles t.after_triangles.now (t.ensures itself (up_to 64) l.line.now c.decimal.ensures) p.points p.after_points.now (p.ensures itself (up_to 64) t.after_triangles.now c.decimal-2.ensures) s.size s.after_size.now (s.ensures itself hex p.after_points.now c.bits.ensures) (c.in_err-stop.ensures itself one_digit s.after_size.now c.digit.ensures))

pub returns-clause-reads : goal.returns-clause-reads
unfolding bytes
returns-clause-reads c =
    let l = c.in_ok-line in
    let t = c.in_ok-triangles in
    let p = c.in_ok-points in
    let s = c.in_ok-size in
    let r = c.in_ok-stop in
    all_read c.args.s.now l.line.now l.ensures t.triangles t.after_triangles.now (t.ensures itself (up_to 64) l.line.now c.decimal.ensures) p.points p.after_points.now (p.ensures itself (up_to 64) t.after_triangles.now c.decimal-2.ensures) s.size s.after_size.now (s.ensures itself hex p.after_points.now c.bits.ensures) r.stop r.rest.now (r.ensures itself one_digit s.after_size.now c.digit.ensures)

pub returns-clause-few : goal.returns-clause-few
returns-clause-few c =
    let t = c.in_ok-triangles in
    let p = c.in_ok-points in
    (within 64 32 t.triangles t.after_triangles.now _ (t.ensures itself (up_to 64) c.in_ok-line.line.now c.decimal.ensures), within 64 32 p.points p.after_points.now _ (p.ensures itself (up_to 64) t.after_triangles.now c.decimal-2.ensures))
