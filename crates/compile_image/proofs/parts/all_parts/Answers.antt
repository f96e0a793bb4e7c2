use Rattle.compile_image.proofs.parts.all_parts.Goals as goal

pub all_monitors-requires : goal.all_monitors-requires
all_monitors-requires c = c.requires.fits.monitor_words

pub all_routines-requires : goal.all_routines-requires
all_routines-requires c = record { parts = c.requires.fits.routine_parts; rows = c.requires.fits.rows; fits = c.requires.fits.fit_rows }

pub all_processes-requires : goal.all_processes-requires
all_processes-requires c = record {
  over = c.requires.over;
  events = c.requires.events;
  parts = c.requires.fits.process_parts;
  sizes = c.requires.fits.sizes;
  fits = c.requires.fits.fit_sizes;
}

pub returns : goal.returns
returns c = record { monitors = c.in-Ok.ensures; routines = c.in-Ok-all_routines.ensures; processes = c.in-Ok-all_processes.ensures }
