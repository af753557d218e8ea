use Rattle.components.proofs.Members.{first, second, third}
use Rattle.components.proofs.around.read_nodes.Goals as goal

pub returns : goal.returns
returns c = λ t h.
    let a = c.args in
    (first a.w.now a.s a.i 0 t h, second a.w.now a.s a.i 0 t h, third a.w.now a.s a.i 0 t h)
