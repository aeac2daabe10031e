-- How much of the arrays of zeros the pass is lent.
use Rattle.std.proofs.Common.{◌≡◌, ap, ℕ, ◌+◌, ◌≤◌, arith}
use Rattle.low_first.specs.LowFirst.{low_two}
use Rattle.log_model.specs.Whole.{Below}
use Rattle.log_combine.proofs.Counts.{take-zeros, zeros-long}
use Rattle.log_combine.proofs.InStep.{few-channels}
use Rattle.log_combine.proofs.write.Goals as goal

pub slice_bounds-d-end : goal.slice_bounds-d-end
slice_bounds-d-end c =
    let a = c.args in
    let f : Below 256 a.first.now = λ i h. omega (arith, c.type_inv.first i) in
    let g : Below 256 a.second.now = λ i h. omega (arith, c.type_inv.second i) in
    let l = few-channels a.first.now a.second.now a.hops f g c.requires.paired in
    let n : c.from-n.result ≡ low_two a.first.now 0 = omega (arith, c.from-n.ensures, c.two_bytes.ensures) in
    omega (arith, l, n)

pub slice_bounds-write_on-end : goal.slice_bounds-write_on-end
slice_bounds-write_on-end c =
    let a = c.args in
    let f : Below 256 a.first.now = λ i h. omega (arith, c.type_inv.first i) in
    let g : Below 256 a.second.now = λ i h. omega (arith, c.type_inv.second i) in
    let l = few-channels a.first.now a.second.now a.hops f g c.requires.paired in
    let n : c.from-n.result ≡ low_two a.first.now 0 = omega (arith, c.from-n.ensures, c.two_bytes.ensures) in
    zeros-long c.from-n.result 512 (omega (arith, l, n))

pub slice_bounds-p-end : goal.slice_bounds-p-end
slice_bounds-p-end c =
    let a = c.args in
    let f : Below 256 a.first.now = λ i h. omega (arith, c.type_inv.first i) in
    let g : Below 256 a.second.now = λ i h. omega (arith, c.type_inv.second i) in
    let l = few-channels a.first.now a.second.now a.hops f g c.requires.paired in
    let n : c.from-n.result ≡ low_two a.first.now 0 = omega (arith, c.from-n.ensures, c.two_bytes.ensures) in
    omega (arith, l, n)

pub slice_bounds-write_on-end-2 : goal.slice_bounds-write_on-end-2
slice_bounds-write_on-end-2 c =
    let a = c.args in
    let f : Below 256 a.first.now = λ i h. omega (arith, c.type_inv.first i) in
    let g : Below 256 a.second.now = λ i h. omega (arith, c.type_inv.second i) in
    let l = few-channels a.first.now a.second.now a.hops f g c.requires.paired in
    let n : c.from-n.result ≡ low_two a.first.now 0 = omega (arith, c.from-n.ensures, c.two_bytes.ensures) in
    zeros-long c.from-n.result 512 (omega (arith, l, n))

pub slice_bounds-e-end : goal.slice_bounds-e-end
slice_bounds-e-end c =
    let a = c.args in
    let f : Below 256 a.first.now = λ i h. omega (arith, c.type_inv.first i) in
    let g : Below 256 a.second.now = λ i h. omega (arith, c.type_inv.second i) in
    let l = few-channels a.first.now a.second.now a.hops f g c.requires.paired in
    let n : c.from-n.result ≡ low_two a.first.now 0 = omega (arith, c.from-n.ensures, c.two_bytes.ensures) in
    omega (arith, l, n)

pub slice_bounds-write_on-end-3 : goal.slice_bounds-write_on-end-3
slice_bounds-write_on-end-3 c =
    let a = c.args in
    let f : Below 256 a.first.now = λ i h. omega (arith, c.type_inv.first i) in
    let g : Below 256 a.second.now = λ i h. omega (arith, c.type_inv.second i) in
    let l = few-channels a.first.now a.second.now a.hops f g c.requires.paired in
    let n : c.from-n.result ≡ low_two a.first.now 0 = omega (arith, c.from-n.ensures, c.two_bytes.ensures) in
    zeros-long c.from-n.result 512 (omega (arith, l, n))

pub slice_bounds-q-end : goal.slice_bounds-q-end
slice_bounds-q-end c =
    let a = c.args in
    let f : Below 256 a.first.now = λ i h. omega (arith, c.type_inv.first i) in
    let g : Below 256 a.second.now = λ i h. omega (arith, c.type_inv.second i) in
    let l = few-channels a.first.now a.second.now a.hops f g c.requires.paired in
    let n : c.from-n.result ≡ low_two a.first.now 0 = omega (arith, c.from-n.ensures, c.two_bytes.ensures) in
    omega (arith, l, n)

pub slice_bounds-write_on-end-4 : goal.slice_bounds-write_on-end-4
slice_bounds-write_on-end-4 c =
    let a = c.args in
    let f : Below 256 a.first.now = λ i h. omega (arith, c.type_inv.first i) in
    let g : Below 256 a.second.now = λ i h. omega (arith, c.type_inv.second i) in
    let l = few-channels a.first.now a.second.now a.hops f g c.requires.paired in
    let n : c.from-n.result ≡ low_two a.first.now 0 = omega (arith, c.from-n.ensures, c.two_bytes.ensures) in
    zeros-long c.from-n.result 512 (omega (arith, l, n))

pub slice_bounds-db-end : goal.slice_bounds-db-end
slice_bounds-db-end c =
    let a = c.args in
    let f : Below 256 a.first.now = λ i h. omega (arith, c.type_inv.first i) in
    let g : Below 256 a.second.now = λ i h. omega (arith, c.type_inv.second i) in
    let l = few-channels a.first.now a.second.now a.hops f g c.requires.paired in
    let n : c.from-n.result ≡ low_two a.first.now 0 = omega (arith, c.from-n.ensures, c.two_bytes.ensures) in
    omega (arith, l, n)

pub slice_bounds-write_on-end-5 : goal.slice_bounds-write_on-end-5
slice_bounds-write_on-end-5 c =
    let a = c.args in
    let f : Below 256 a.first.now = λ i h. omega (arith, c.type_inv.first i) in
    let g : Below 256 a.second.now = λ i h. omega (arith, c.type_inv.second i) in
    let l = few-channels a.first.now a.second.now a.hops f g c.requires.paired in
    let n : c.from-n.result ≡ low_two a.first.now 0 = omega (arith, c.from-n.ensures, c.two_bytes.ensures) in
    zeros-long (c.from-n.result + c.from-n.result) 1024 (omega (arith, l, n))

pub slice_bounds-power-end : goal.slice_bounds-power-end
slice_bounds-power-end c =
    let a = c.args in
    let f : Below 256 a.first.now = λ i h. omega (arith, c.type_inv.first i) in
    let g : Below 256 a.second.now = λ i h. omega (arith, c.type_inv.second i) in
    let l = few-channels a.first.now a.second.now a.hops f g c.requires.paired in
    let n : c.from-n.result ≡ low_two a.first.now 0 = omega (arith, c.from-n.ensures, c.two_bytes.ensures) in
    omega (arith, l, n)

pub slice_bounds-write_on-end-6 : goal.slice_bounds-write_on-end-6
slice_bounds-write_on-end-6 c =
    let a = c.args in
    let f : Below 256 a.first.now = λ i h. omega (arith, c.type_inv.first i) in
    let g : Below 256 a.second.now = λ i h. omega (arith, c.type_inv.second i) in
    let l = few-channels a.first.now a.second.now a.hops f g c.requires.paired in
    let n : c.from-n.result ≡ low_two a.first.now 0 = omega (arith, c.from-n.ensures, c.two_bytes.ensures) in
    zeros-long (c.from-n.result + c.from-n.result) 1024 (omega (arith, l, n))

pub write_on-requires-clause-ready : goal.write_on-requires-clause-ready
write_on-requires-clause-ready c =
    let n : ℕ = c.from-n.result in
    let a = c.args in
    let f : Below 256 a.first.now = λ i h. omega (arith, c.type_inv.first i) in
    let g : Below 256 a.second.now = λ i h. omega (arith, c.type_inv.second i) in
    let l = few-channels a.first.now a.second.now a.hops f g c.requires.paired in
    let i : n ≡ low_two a.first.now 0 = omega (arith, c.from-n.ensures, c.two_bytes.ensures) in
    let one : n ≤ 512 = omega (arith, l, i) in
    let two : n + n ≤ 1024 = omega (arith, one) in
    record {
      pair = c.requires.paired;
      lent = record {
        d_zero = take-zeros n 512 _ one i;
        p_zero = take-zeros n 512 _ one i;
        e_zero = take-zeros n 512 _ one i;
        q_zero = take-zeros n 512 _ one i;
        db_zero = take-zeros (n + n) 1024 _ two (ap (λ (m : ℕ). m + m) i);
        power_zero = take-zeros (n + n) 1024 _ two (ap (λ (m : ℕ). m + m) i);
      };
    }
