use Rattle.ffi.proofs.OnBlock.{changes}
use Rattle.ffi.proofs.controller_words.change.Goals as goal

pub returns : goal.returns
returns g c =
    let put = c.put_changed.ensures in
    changes c.call.result c.in-Some.ensures.is c.state_of.ensures c.call.ensures put.answers put.leaves
