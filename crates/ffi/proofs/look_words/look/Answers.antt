use Rattle.ffi.proofs.OnBlock.{looks}
use Rattle.ffi.proofs.look_words.look.Goals as goal

pub returns : goal.returns
returns g c =
    let put = c.put.ensures in
    looks c.call.result c.in-Some.ensures c.state_of.ensures c.call.ensures put.answers put.leaves
