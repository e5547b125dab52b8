use Rattle.std.proofs.Common.{◌≡◌, ℕ, ◌+◌, ◌∙◌, List, [], length, slice_index, arith, ap, refl, subst, sym}
use Rattle.std.proofs.lemmas.List.{length_push}
use Rattle.network_laws.specs.declared.network.Network.{Network}
use Rattle.network_parts.specs.Dividing.{row_at, rows_of, sizes_of}
use Rattle.network_parts.proofs.FillLemmas.{rows_more, sizes_more}
use Rattle.network_parts.proofs.dividing.empty_networks.Goals as goal

pub loop-init : goal.loop-init
loop-init c =
    subst (λ (networks : List Network). (length networks ≡ 0) × ((k : ℕ) → slice_index (sizes_of networks) k ≡ 0) × ((k : ℕ) → row_at (rows_of networks) k ≡ [])) (sym c.in_ok-networks.ensures.items)
    (refl, λ k. refl, λ k. refl)

pub loop-preserved : goal.loop-preserved
loop-preserved c =
    let pushed = c.in_ok-push.ensures.items in
    let many = c.loop.invariant.0 in (
      ap length pushed ∙ length_push c.loop.networks.items _ ∙ ap (λ n. n + 1) many,
      sizes_more c.loop.networks.items c.push.new.self.items _ pushed refl c.loop.invariant.1,
      rows_more c.loop.networks.items c.push.new.self.items _ pushed c.new.ensures.items c.loop.invariant.2,
    )

pub returns : goal.returns
returns c =
    let many = c.loop.invariant.0 in
    let all : c.loop.counter ≡ c.args.count = omega arith in
    record { as_many = many ∙ all; nodes = λ numbers k h. c.loop.invariant.1 k; edges = λ numbers edges k h. c.loop.invariant.2 k }
