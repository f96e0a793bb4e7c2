-- Each word of the load is spelled as a token is.
use Rattle.std.proofs.Common.{ℕ, zero, suc, ◌+◌, ◌*◌, ◌<◌, ◌≤◌, Bool, true, false, List, [], ◌∷◌, codes, Some, arith}
use Rattle.std.proofs.Math.Nat.{mul-le-mul_left}
use Rattle.syntax_tree.specs.Placed.{Stmts, stmts, no_stmts, put, exprs, no_exprs}
use Rattle.syntax.specs.Words as w
use Rattle.syntax.specs.Words.{Word, named, number}
use Rattle.syntax_reading.specs.TreeWords.{stmts_words, stmt_words, process_words, decl_words, each_words, optional_words, handler_words, monitor_words, prog_words}
use Rattle.syntax_printer.proofs.Spelled.{AreSpelled}
use Rattle.load.specs.declared.program.DrawnProcess.{DrawnProcess}
use Rattle.load.specs.Program.{of_name, enter, frame, turns_of, drawn, is_even, pause_if, load_handler, load_monitor, process_name, load_process, processes_from, load_program}
use Rattle.load_text_law.proofs.Drawing.{draw_below}
use Rattle.load_text_law.proofs.Numerals.{number_spelled, name_spelled}
use Rattle.load_text_law.proofs.Words as are

-- what a process may draw
pub record IsDrawn (d : DrawnProcess) : Type 0 where
  pub frames : d.frames < 8
  pub turns : d.turns < 10
  pub addend : d.addend < 50

pub is_drawn : (key at : ℕ) → IsDrawn (drawn key at)
is_drawn key at = record { frames = draw_below key (3 * at) 8 (omega arith); turns = draw_below key (3 * at + 1) 10 (omega arith); addend = draw_below key (3 * at + 2) 50 (omega arith) }

pub frame_low : (count : ℕ) (d : DrawnProcess) → count ≤ 64 → d.frames < 8 → frame count d ≤ 512000
frame_low count d few low =
    let most : 1 + d.frames ≤ 8 = omega arith in
    let e = mul-le-mul_left (1000 * count) most in
    omega (arith, e)

abbrev last : Stmts (Unit {0})
last = stmts (put tt (codes "dst") tt (of_name (codes "x"))) no_stmts

put_last : (ws : List Word) → AreSpelled ws → AreSpelled (stmts_words last ws)
put_last ws rest = (are.word_put, (are.name_dst, (are.name_x, rest)))

ending : (even : Bool) (ws : List Word) → AreSpelled ws → AreSpelled (stmts_words (pause_if even last) ws)
ending true ws rest = (are.name_m, (are.word_dot, (are.name_pause, (are.word_left_paren, (are.word_right_paren, put_last ws rest)))))
ending false ws rest = put_last ws rest

looped : (d : DrawnProcess) (ws : List Word) → IsDrawn d → AreSpelled ws → AreSpelled (stmt_words (turns_of d) ws)
looped d ws low rest = (
  are.word_for,
  (
    are.name_i,
    (
      are.word_colon,
      (
        number_spelled 1 (omega arith),
        (
          are.word_range,
          (
            number_spelled (1 + d.turns) (omega (arith, low.turns)),
            (
              are.word_do,
              (
                are.name_x,
                (
                  are.word_assign,
                  (
                    are.name_x,
                    (
                      are.word_mod,
                      (
                        number_spelled 97 (omega arith),
                        (
                          are.word_plus,
                          (
                            number_spelled d.addend (omega (arith, low.addend)),
                            (are.word_end, (are.word_for, rest)),
                          ),
                        ),
                      ),
                    ),
                  ),
                ),
              ),
            ),
          ),
        ),
      ),
    ),
  ),
)

of_process : (count at : ℕ) (d : DrawnProcess) (ws : List Word) → count ≤ 64 → at ≤ 64 → IsDrawn d → AreSpelled ws → AreSpelled (process_words (load_process count at d) ws)
of_process count at d ws few within low rest =
    let name = name_spelled at within in
    let behind = optional_words handler_words (Some load_handler) (w.END ∷ named (process_name at) ∷ ws) in
    let ends = stmts_words (pause_if (is_even at) last) behind in (
      are.word_process,
      (
        name,
        (
          are.word_colon,
          (
            are.word_periodic,
            (
              are.word_frame,
              (
                number_spelled (frame count d) (omega (arith, frame_low count d few low.frames)),
                (
                  are.word_var,
                  (
                    are.name_x,
                    (
                      are.word_colon,
                      (
                        are.word_int,
                        (
                          are.word_begin,
                          (
                            are.word_get,
                            (
                              are.name_src,
                              (
                                are.name_x,
                                looped d (stmt_words (enter (codes "add") (exprs (of_name (codes "x")) no_exprs)) ends) low (
                                  are.name_m,
                                  (
                                    are.word_dot,
                                    (
                                      are.name_add,
                                      (
                                        are.word_left_paren,
                                        (
                                          are.name_x,
                                          (
                                            are.word_right_paren,
                                            ending (is_even at) behind (
                                              are.word_handler,
                                              (
                                                are.word_left_paren,
                                                (
                                                  number_spelled 10 (omega arith),
                                                  (
                                                    are.word_right_paren,
                                                    (
                                                      are.word_put,
                                                      (
                                                        are.name_dst,
                                                        (
                                                          number_spelled 0 (omega arith),
                                                          (are.word_end, (name, rest)),
                                                        ),
                                                      ),
                                                    ),
                                                  ),
                                                ),
                                              ),
                                            ),
                                          ),
                                        ),
                                      ),
                                    ),
                                  ),
                                ),
                              ),
                            ),
                          ),
                        ),
                      ),
                    ),
                  ),
                ),
              ),
            ),
          ),
        ),
      ),
    )

of_processes : (key count before left : ℕ) (ws : List Word) → count ≤ 64 → before + left ≤ 64 → AreSpelled ws → AreSpelled (each_words decl_words (processes_from key count before left) ws)
of_processes key count before zero ws few within rest = rest
of_processes key count before (suc left) ws few within rest =
    of_process count (suc before) (drawn key before) (each_words decl_words (processes_from key count (suc before) left) ws) few (omega arith) (is_drawn key before) (of_processes key count (suc before) left ws few (omega arith) rest)

of_monitor : (ws : List Word) → AreSpelled ws → AreSpelled (monitor_words load_monitor ws)
of_monitor ws rest = (
  are.word_monitor,
  (
    are.name_m,
    (
      are.word_var,
      (
        are.name_n,
        (
          are.word_colon,
          (
            are.word_int,
            (
              are.word_condition,
              (
                are.name_c,
                (
                  are.word_entry,
                  (
                    are.word_procedure,
                    (
                      are.name_add,
                      (
                        are.word_left_paren,
                        (
                          are.name_v,
                          (
                            are.word_colon,
                            (
                              are.word_int,
                              (
                                are.word_right_paren,
                                (
                                  are.word_begin,
                                  (
                                    are.name_n,
                                    (
                                      are.word_assign,
                                      (
                                        are.name_v,
                                        (
                                          are.word_signal,
                                          (
                                            are.name_c,
                                            (
                                              are.word_end,
                                              (
                                                are.name_add,
                                                (
                                                  are.word_entry,
                                                  (
                                                    are.word_procedure,
                                                    (
                                                      are.name_pause,
                                                      (
                                                        are.word_left_paren,
                                                        (
                                                          are.word_right_paren,
                                                          (
                                                            are.word_begin,
                                                            (
                                                              are.word_wait,
                                                              (
                                                                are.name_c,
                                                                (
                                                                  are.word_no_longer_than,
                                                                  (
                                                                    number_spelled 50 (omega arith),
                                                                    (
                                                                      are.word_colon,
                                                                      (
                                                                        number_spelled 10 (omega arith),
                                                                        (
                                                                          are.word_end,
                                                                          (
                                                                            are.name_pause,
                                                                            (are.word_end, (are.name_m, rest)),
                                                                          ),
                                                                        ),
                                                                      ),
                                                                    ),
                                                                  ),
                                                                ),
                                                              ),
                                                            ),
                                                          ),
                                                        ),
                                                      ),
                                                    ),
                                                  ),
                                                ),
                                              ),
                                            ),
                                          ),
                                        ),
                                      ),
                                    ),
                                  ),
                                ),
                              ),
                            ),
                          ),
                        ),
                      ),
                    ),
                  ),
                ),
              ),
            ),
          ),
        ),
      ),
    ),
  ),
)

pub of_program : (key count : ℕ) → count ≤ 64 → AreSpelled (prog_words (load_program key count))
of_program key count few = (
  are.word_program,
  (
    are.name_load,
    (
      are.word_device,
      (
        are.name_src,
        (
          are.word_colon,
          (
            are.word_in,
            (
              are.word_device,
              (
                are.name_dst,
                (
                  are.word_colon,
                  (
                    are.word_out,
                    of_monitor (each_words decl_words (processes_from key count 0 count) (w.END ∷ named (codes "load") ∷ [])) (of_processes key count 0 count (w.END ∷ named (codes "load") ∷ []) few (omega arith) (are.word_end, (are.name_load, tt))),
                  ),
                ),
              ),
            ),
          ),
        ),
      ),
    ),
  ),
)
