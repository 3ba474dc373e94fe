-- A refusal of the data map, or what the buffer gives.
use Rattle.std.proofs.Common.{ℕ, length, replicate, sym, ap, ◌∙◌, arith}
use lib.ListN.{length-replicate}
use Rattle.std.proofs.lemmas.Result.{err_from_is_err_and}
use Rattle.lists.specs.Over.{over}
use Rattle.lists.proofs.Over.{over-whole}
use Rattle.filling.specs.Filling.{Filling}
use Rattle.spectrum_data_map.proofs.DataMap.{map-all}
use Rattle.spectrum.specs.Layout.{header_bytes, before_colours}
use Rattle.spectrum.specs.Screen.{plane_bytes}
use Rattle.spectrum.specs.Reading.{unpacked_data, read_maps}
use Rattle.spectrum.proofs.Reading.{data-called, data-refused, reads-refused}
use Rattle.spectrum.proofs.read_by_buffer.Goals as goal

pub returns-in_err-last : goal.returns-in_err-last
returns-in_err-last c =
    let a = c.args in
    let q = err_from_is_err_and c.from_residual.result c.from_residual.ensures.1 in
    let called = data-called a.file.now a.end _ c.requires.end_value.0 (length-replicate {A = ℕ} plane_bytes 0) in
    let is = sym (c.unpack_map.ensures.answer ∙ ap (λ (f : Filling). f.ends) called) ∙ c.in_err-last.was in
    rw (q.1, q.2) (reads-refused (read_maps a.file.now) a.screen.now a.palettes.now _ (data-refused a.file.now _ is))

pub put_maps-requires : goal.put_maps-requires
put_maps-requires c =
    let a = c.args in
    let zeros = length-replicate {A = ℕ} plane_bytes 0 in
    let called = data-called a.file.now a.end _ c.requires.end_value.0 zeros in
    let is = sym (c.unpack_map.ensures.answer ∙ ap (λ (f : Filling). f.ends) called) ∙ c.in_ok-last.was in
    let size = map-all (before_colours a.file.now) header_bytes plane_bytes _ is in
    let planes =
    c.unpack_map.ensures.bytes
    ∙ ap (λ (f : Filling). over f.made (replicate plane_bytes 0)) called
    ∙ over-whole (unpacked_data a.file.now).made (replicate plane_bytes 0) (omega (arith, zeros, size)) in
    record {
      end_value = (c.requires.end_value.0, is);
      planes_value = (planes, omega (arith, ap length planes, size));
      areas = c.requires.areas;
    }
