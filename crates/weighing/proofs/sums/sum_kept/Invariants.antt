-- `weighing::sums::sum_kept` meets its contract. Assumes nothing.
use Rattle.tables.specs.Lent.{shown}
use Rattle.weighing.proofs.Adding.{entry_most, SumTo}
use Rattle.weighing.proofs.sums.sum_kept.Given as goal

abbrev pub invariant-loop-home : goal.invariant-loop-home
invariant-loop-home l =
    let t = shown l.t in
    SumTo (λ k. 1) 1 t l.home-index l.files × SumTo (λ k. k.size) entry_most t l.home-index l.bytes.0 × SumTo (λ k. k.freq) entry_most t l.home-index l.freqs
