-- A vector's ones are the entries that it names.
use lib.Count.{ones-le}
use Rattle.spectrum_colour_map.proofs.Vector.{ones-named}
use Rattle.spectrum_colour_map.proofs.named.Goals as goal

pub returns : goal.returns
returns c =
    let v = c.args.vector in
    let fits = c.ranges.vector.fits in
    (ones-named 16 v fits, ones-le 16 v fits)
