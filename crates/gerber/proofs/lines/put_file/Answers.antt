-- The four parts of the file, one after the other.
use Rattle.cover.specs.Records.{flashes_in}
use Rattle.gerber.proofs.FileParts.{head-fits, apertures-fit, flashes-fit, end-fits, whole-file}
use Rattle.gerber.proofs.lines.put_file.Goals as goal

pub put_head-first-requires : goal.put_head-first-requires
put_head-first-requires c = let a = c.args in
    let p = a.plane in
    head-fits (a.version) p.pitch p.x p.y (flashes_in a.flashes.count a.flashes.records.now) _ c.note_used.ensures _ c.requires.fits

pub put_apertures-next-requires : goal.put_apertures-next-requires
put_apertures-next-requires c = let a = c.args in
    let p = a.plane in
    apertures-fit (a.version) p.pitch p.x p.y (flashes_in a.flashes.count a.flashes.records.now) _ c.note_used.ensures _ c.requires.fits c.put_head-first.ensures

pub put_flashes-end-requires-clause-fits : goal.put_flashes-end-requires-clause-fits
put_flashes-end-requires-clause-fits c = let a = c.args in
    let p = a.plane in
    flashes-fit (a.version) p.pitch p.x p.y (flashes_in a.flashes.count a.flashes.records.now) _ c.note_used.ensures _ c.requires.fits
    c.put_head-first.ensures c.put_apertures-next.ensures

pub put_bytes-requires : goal.put_bytes-requires
put_bytes-requires c = let a = c.args in
    let p = a.plane in
    end-fits (a.version) p.pitch p.x p.y (flashes_in a.flashes.count a.flashes.records.now) _ c.note_used.ensures _ c.requires.fits
    c.put_head-first.ensures c.put_apertures-next.ensures c.put_flashes-end.ensures

pub returns : goal.returns
returns c = let a = c.args in
    let p = a.plane in
    whole-file (a.version) p.pitch p.x p.y (flashes_in a.flashes.count a.flashes.records.now) _ c.note_used.ensures _ c.requires.fits
    c.put_head-first.ensures c.put_apertures-next.ensures c.put_flashes-end.ensures c.put_bytes.ensures
