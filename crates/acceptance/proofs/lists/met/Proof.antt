-- `lists::met`: no list, the stored hash, or another.
use mathlib.Core.Path.{ap, sym}
use borrow.Author.Rules.{rules}
use Rattle.acceptance.specs.Tallies.{listed, list_at, Lists}
use Rattle.acceptance.proofs.Counting.{like_listed, no_list, same_hash, other_hash}
use Rattle.acceptance.proofs.lists.met.Statement.{statement}
use Rattle.acceptance.proofs.lists.met.Tie as tie

-- the list that was found is the one at the place
has_list : (c : tie.After-triangles_of-list) → Lists (list_at c.args.points c.args.place) c.triangles_of-list.result
unfolding list_at
has_list c = like_listed (ap listed (sym c.small_mesh.ensures)) c.triangles_of-list.ensures

returns : tie.Need-returns-then-list-eq0
returns c =
    let t = c in
    let a = t.args in
    no_list a.points (list_at a.points a.place) a.stored (has_list t.before.before) c.if-list-eq0.true

returns_2 : tie.Need-returns-then-list_hash-stored
returns_2 c =
    let t = c in
    let a = t.args in
    same_hash a.points (list_at a.points a.place) (has_list t.before.before.before.before) c.if-list-eq0.false c.list_hash.ensures c.if-list_hash-stored.true

returns_3 : tie.Need-returns
returns_3 c =
    let t = c in
    let a = t.args in
    other_hash a.points (list_at a.points a.place) (has_list t.before.before.before.before) c.if-list-eq0.false c.list_hash.ensures c.if-list_hash-stored.false

pub met_spec : {M : Type 1} → statement M
met_spec =
    tie.close
    (tie.spec
    (λ c κs. search rules) (λ c κs. search rules) returns (λ c κs. search rules) returns_2 returns_3)
