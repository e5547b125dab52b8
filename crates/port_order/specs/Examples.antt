-- The ports of small children in tests.
use Rattle.std.specs.Prelude.{◌≡◌, ◌^◌, false, pos, length}
use Rattle.elk_doc.specs.declared.document.PortRule.TheVariants.{FixedPos}
use Rattle.drawing_types.specs.Ranges.{IsPlaceWithin}
use Rattle.port_order.specs.declared.children.ChildPort.{ChildPort}
use Rattle.port_order.specs.declared.children.Child.{Child}
use Rattle.port_order.specs.Conditions.{IsChild}

-- a port of 10 by 10, with its anchor in the middle
pub record IsExamplePort (p : ChildPort) : Type 0 where
  pub size : p.size ≡ record { width = pos 10; height = pos 10 }
  pub half : p.half ≡ pos 5
  pub place : IsPlaceWithin (2 ^ 54) p.place

-- a leaf with one port, which is pinned
pub record IsPinnedCorner (c : Child) : Type 0 where
  pub child : IsChild c
  pub one : length c.ports ≡ 1
  pub rule : c.rule ≡ FixedPos
  pub leaf : c.compound ≡ false
