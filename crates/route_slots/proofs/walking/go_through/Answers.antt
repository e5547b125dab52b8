use Rattle.std.proofs.Common.{◌∙◌, ◌<◌, sym, ap, length, arith, rules}
use Rattle.std.proofs.lemmas.List.{get_or-set_same}
use Rattle.route_slots.specs.declared.walking.Place.TheVariants.{New, Open}
use Rattle.route_slots.specs.Walks.{Enters, KeepsDone, place_in}
use Rattle.route_slots.proofs.WalkStepping.{entered, same_search, open_new}
use Rattle.route_slots.proofs.walking.go_through.Goals as goal

pub walk-init : goal.walk-init
walk-init c =
    let s = c.requires.walk in
    let w = c.args.walk.now in
    let links = c.args.links.now in
    let len = s.places_len in
    let root = c.requires.root in
    let there : c.args.root < length c.args.walk.now.places.items = omega arith in
    let e : Enters c.args.walk.now c.enter.new.walk c.args.root = search rules in
    let keeps : KeepsDone c.args.walk.now c.enter.new.walk = search rules in
    let here = ap (λ ps. place_in ps c.args.root) e.places ∙ get_or-set_same w.places.items c.args.root Open New there in
    record {
      walk =
          same_search links w.ahead.items _ _ _ w.depths.items _ w.cut.items _ _ _ e.ahead e.places e.depths e.cut e.way
          (entered links w.ahead.items w.places.items w.depths.items w.cut.items w.way.items s c.args.root c.requires.root c.requires.is_new
          (λ i i_is. absurd (let none = ap length c.requires.none in omega (arith, none, i_is))));
      done = keeps;
      seen = λ new. open_new (sym here ∙ new);
    }
