-- `layout::whole::put_refused` meets its contract. Assumes nothing.
use native.Mathlib.Omega.{arith}
use Rattle.layout.proofs.Ways.{refused_room}
use Rattle.layout.proofs.whole.put_refused.Goals as goal

pub put_item-requires : goal.put_item-requires
put_item-requires c = refused_room _ _ (record { room = omega (arith, c.told-text) })
