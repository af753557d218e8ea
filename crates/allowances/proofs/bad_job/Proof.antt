-- One test after the other.
use Rattle.std.specs.Prelude.{◌≡◌, ◌*◌, ◌/◌, ◌≤◌}
use Rattle.laws.specs.Kit.{false, arith, rules, mul-le-mul, eqb, ltb, leb, eq-eqb, ne_eqb, lt-ltb, le-ltb, lt-leb, le-leb}
use native.Mathlib.Nat.{div-le_self}
use Rattle.definition.specs.Job.{most_meshes, most_allowance, share, bad_job}
use Rattle.allowances.proofs.bad_job.Statement.{statement}
use Rattle.allowances.proofs.bad_job.Tie as tie

-- the tests that a state passed
some : (e : tie.Else-j-eq0) → eqb e.args.j.meshes 0 ≡ false
some e = ne_eqb e.args.j.meshes 0 e.if-j-eq0.false

few : (e : tie.Else-j-gt-MOST_MESHES) → ltb 16 e.args.j.meshes ≡ false
few e = le-ltb 16 e.args.j.meshes (omega (arith, e.if-j-gt-MOST_MESHES.false))

going : (e : tie.Else-j) → leb e.args.j.meshes e.args.j.done ≡ false
going e = let j = e.args.j in lt-leb j.meshes j.done (omega (arith, e.if-j.false))

any : (e : tie.Else-j-eq0-2) → eqb e.args.j.allowance 0 ≡ false
any e = ne_eqb e.args.j.allowance 0 e.if-j-eq0-2.false

fair : (e : tie.Else-j-gt-MOST_ALLOWANCE) → ltb 1000000 e.args.j.allowance ≡ false
fair e = le-ltb 1000000 e.args.j.allowance (omega (arith, e.if-j-gt-MOST_ALLOWANCE.false))

returns : tie.Need-returns-then-j-eq0
unfolding bad_job
returns c = rw (eq-eqb c.args.j.meshes 0 c.if-j-eq0.true)

returns_2 : tie.Need-returns-then-j-gt-MOST_MESHES
unfolding bad_job most_meshes
returns_2 c = let e = c in rw (some e.before.before, lt-ltb 16 e.args.j.meshes c.if-j-gt-MOST_MESHES.true)

returns_3 : tie.Need-returns-then-j
unfolding bad_job most_meshes
returns_3 c =
    let e = c in
    let o = e in
    let j = o.args.j in
    rw (some o.before.before.before.before, few e.before.before, le-leb j.meshes j.done c.if-j.true)

returns_4 : tie.Need-returns-then-j-eq0-2
unfolding bad_job most_meshes
returns_4 c =
    let g = c in
    let e = g in
    let o = e in
    rw (some o.before.before.before.before.before.before, few e.before.before.before.before, going g.before.before, eq-eqb o.args.j.allowance 0 c.if-j-eq0-2.true)

returns_5 : tie.Need-returns-then-j-gt-MOST_ALLOWANCE
unfolding bad_job most_meshes most_allowance
returns_5 c =
    let y = c in
    let g = y in
    let e = g in
    let o = e in
    rw (some o.before.before.before.before.before.before.before.before, few e.before.before.before.before.before.before, going g.before.before.before.before, any y.before.before, lt-ltb 1000000 o.args.j.allowance c.if-j-gt-MOST_ALLOWANCE.true)

-- what the meshes before could leave fits
mul_most : tie.Need-overflow_mul-most
mul_most c =
    let f = c in
    let g = f in
    let e = g in
    let j = e.args.j in
    let done : j.done ≤ 16 = omega (arith, g.if-j.false, e.if-j-gt-MOST_MESHES.false) in
    let share : j.allowance / j.meshes ≤ 1000000 = omega (arith, div-le_self j.allowance j.meshes, f.if-j-gt-MOST_ALLOWANCE.false) in
    let all : j.done * (j.allowance / j.meshes) ≤ 16 * 1000000 = mul-le-mul done share in
    omega (arith, all)

returns_6 : tie.Need-returns
unfolding bad_job most_meshes most_allowance share
returns_6 c =
    let f = c in
    let y = f in
    let g = y in
    let e = g in
    let o = e in
    rw (some o.before.before.before.before.before.before.before.before.before.before.before, few e.before.before.before.before.before.before.before.before.before, going g.before.before.before.before.before.before.before, any y.before.before.before.before.before, fair f.before.before.before)

pub bad_job_spec : {M : Type 1} → statement M
bad_job_spec =
    tie.close
    (tie.spec
    returns returns_2 returns_3 returns_4 returns_5 (λ c. search rules) mul_most returns_6)
