use Rattle.std.specs.Prelude.{◌+◌}
use Rattle.laws.specs.Kit.{◌∙◌, ap, ℕ, get_or}
use Rattle.loops.proofs.Linking.{can_link_first, can_link_second, link_edge_to}
use Rattle.loops.proofs.links.link_edge.Goals as goal

pub link-requires : goal.link-requires
link-requires c =
    let a = c.args in
    can_link_first a.i c.requires.2 c.requires.4
    (c.wide-u.ensures ∙ ap (λ (x : ℕ). get_or a.w.now (x + a.i) 0) c.front_u_at.ensures)
    (c.wide-v.ensures ∙ ap (λ (x : ℕ). get_or a.w.now (x + a.i) 0) c.front_v_at.ensures)

pub link-requires-2 : goal.link-requires-2
link-requires-2 c =
    let a = c.args in
    can_link_second a.i c.requires.2 c.requires.4
    (c.wide-u.ensures ∙ ap (λ (x : ℕ). get_or a.w.now (x + a.i) 0) c.front_u_at.ensures)
    (c.wide-v.ensures ∙ ap (λ (x : ℕ). get_or a.w.now (x + a.i) 0) c.front_v_at.ensures)
    c.link.auto.w

pub returns : goal.returns
returns c =
    let a = c.args in
    λ n k m es g.
    link_edge_to a.i m g
    (c.wide-u.ensures ∙ ap (λ (x : ℕ). get_or a.w.now (x + a.i) 0) c.front_u_at.ensures)
    (c.wide-v.ensures ∙ ap (λ (x : ℕ). get_or a.w.now (x + a.i) 0) c.front_v_at.ensures)
    c.link.ensures c.link-2.ensures
