-- What a record of each kind makes is what the callee wrote.
use mathlib.Core.Path.{◌∙◌}
use Prim.Native.Nat.{◌<◌}
use native.Mathlib.Omega.{arith}
use lib.ListN.{get_or}
use Rattle.spectrum_data_map.proofs.Records.{bytes-literal, bytes-repeat, makes-literal, takes-literal}
use Rattle.spectrum_data_map.proofs.Records.{takes-repeat}
use Rattle.spectrum_data_map.proofs.put_record.Goals as goal

pub bounds-map-at-else-x-lt-LEAST_REPEAT : goal.bounds-map-at-else-x-lt-LEAST_REPEAT
bounds-map-at-else-x-lt-LEAST_REPEAT c =
    let a = c.args in
    omega (arith, takes-repeat (get_or a.map.now a.at 0) (omega arith), c.requires.at_in_bounds_2)

pub returns-then-x-lt-LEAST_REPEAT : goal.returns-then-x-lt-LEAST_REPEAT
returns-then-x-lt-LEAST_REPEAT c =
    let a = c.args in
    let x = get_or a.map.now a.at 0 in
    let n = c.made_by.ensures in
    let h : x < 128 = omega arith in
    c.put_part.ensures.fits
    (omega (arith, n, makes-literal x h, takes-literal x h))
    (omega (arith, n))
    ∙ rw (n, bytes-literal a.map.now a.at h)

pub returns-else-x-lt-LEAST_REPEAT : goal.returns-else-x-lt-LEAST_REPEAT
returns-else-x-lt-LEAST_REPEAT c =
    let a = c.args in
    let n = c.made_by-else-x-lt-LEAST_REPEAT.ensures in
    c.put_run.ensures.fits (omega (arith, n)) ∙ rw (n, bytes-repeat a.map.now a.at (omega arith))
