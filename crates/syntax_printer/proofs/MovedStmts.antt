-- The tokens of statements, in other places.
use Rattle.std.proofs.Common.{◌≡◌, ℕ, zero, suc, refl}
use Rattle.syntax_tree.specs.Placed.{Stmt, assign, assign_entry, assign_empty, perform, perform_entry, when, when_else, loop, exit_when, get, put, wait, signal, broadcast, except, assert, Stmts, no_stmts, stmts}
use Rattle.syntax_tree.specs.Bare.{bare_stmt, bare_stmts}
use Rattle.syntax.specs.Words as w
use Rattle.syntax.specs.Words.{Word, named, number, Tok, words_of}
use Rattle.syntax.specs.StmtGrammar.{IsStmt, AreStmts}
use Rattle.syntax_printer.proofs.Moves.{Moves, at-moves, a-moves, nothing-moves, ◌⋆◌, never-moves, made}
use Rattle.syntax_printer.proofs.MovedExprs.{constant-moves, expr-moves, parens-moves, ref-moves}

module _ {P Q : Type 0} where
  mutual
    stmt-moves : (depth : ℕ) (s : Stmt P) → Moves {P = P} {Q = Q} {Y = Stmt Q} (IsStmt depth s) (IsStmt depth) (λ h. bare_stmt h ≡ bare_stmt s)
    stmt-moves depth (assign r e) =
        made (ref-moves depth r ⋆ a-moves w.ASSIGN ⋆ expr-moves 5 depth e)
        (λ y. assign y.one y.two.two) (λ y os vs t. t) (λ y l. let r_like = l.one in let e_like = l.two.two in λ i. assign (r_like i) (e_like i))
    stmt-moves depth (assign_entry r mon p entry q es) =
        made (ref-moves depth r ⋆ a-moves w.ASSIGN ⋆ at-moves (named mon) p ⋆ a-moves w.DOT ⋆ at-moves (named entry) q ⋆ parens-moves depth es)
        (λ y. assign_entry y.one mon y.two.two.one entry y.two.two.two.two.one y.two.two.two.two.two) (λ y os vs t. t) (λ y l. let r_like = l.one in let es_like = l.two.two.two.two.two in λ i. assign_entry (r_like i) mon tt entry tt (es_like i))
    stmt-moves depth (assign_empty r cond p) =
        made (ref-moves depth r ⋆ a-moves w.ASSIGN ⋆ a-moves w.EMPTY ⋆ at-moves (named cond) p)
        (λ y. assign_empty y.one cond y.two.two.two) (λ y os vs t. t) (λ y l. let r_like = l.one in λ i. assign_empty (r_like i) cond tt)
    stmt-moves depth (perform p n es) =
        made (at-moves (named n) p ⋆ parens-moves depth es)
        (λ y. perform y.one n y.two) (λ y os vs t. t) (λ y l. let es_like = l.two in λ i. perform tt n (es_like i))
    stmt-moves depth (perform_entry p mon entry q es) =
        made (at-moves (named mon) p ⋆ a-moves w.DOT ⋆ at-moves (named entry) q ⋆ parens-moves depth es)
        (λ y. perform_entry y.one mon entry y.two.two.one y.two.two.two) (λ y os vs t. t) (λ y l. let es_like = l.two.two.two in λ i. perform_entry tt mon entry tt (es_like i))
    stmt-moves zero (when p e ss) = never-moves (λ ts us took. took)
    stmt-moves (suc depth) (when p e ss) =
        made (at-moves w.IF p ⋆ expr-moves 5 depth e ⋆ a-moves w.THEN ⋆ stmts-moves depth ss ⋆ a-moves w.END ⋆ a-moves w.IF)
        (λ y. when y.one y.two.one y.two.two.two.one) (λ y os vs t. t) (λ y l. let e_like = l.two.one in let ss_like = l.two.two.two.one in λ i. when tt (e_like i) (ss_like i))
    stmt-moves zero (when_else p e ss others) = never-moves (λ ts us took. took)
    stmt-moves (suc depth) (when_else p e ss others) =
        made (at-moves w.IF p ⋆ expr-moves 5 depth e ⋆ a-moves w.THEN ⋆ stmts-moves depth ss ⋆ a-moves w.ELSE ⋆ stmts-moves depth others ⋆ a-moves w.END ⋆ a-moves w.IF)
        (λ y. when_else y.one y.two.one y.two.two.two.one y.two.two.two.two.two.one) (λ y os vs t. t) (λ y l. let e_like = l.two.one in let ss_like = l.two.two.two.one in let others_like = l.two.two.two.two.two.one in λ i. when_else tt (e_like i) (ss_like i) (others_like i))
    stmt-moves zero (loop p n q low high ss) = never-moves (λ ts us took. took)
    stmt-moves (suc depth) (loop p n q low high ss) =
        made (at-moves w.FOR p ⋆ at-moves (named n) q ⋆ a-moves w.COLON ⋆ constant-moves low ⋆ a-moves w.RANGE ⋆ constant-moves high ⋆ a-moves w.DO ⋆ stmts-moves depth ss ⋆ a-moves w.END ⋆ a-moves w.FOR)
        (λ y. loop y.one n y.two.one y.two.two.two.one y.two.two.two.two.two.one y.two.two.two.two.two.two.two.one) (λ y os vs t. t) (λ y l. let low_like = l.two.two.two.one in let high_like = l.two.two.two.two.two.one in let ss_like = l.two.two.two.two.two.two.two.one in λ i. loop tt n tt (low_like i) (high_like i) (ss_like i))
    stmt-moves depth (exit_when p e) =
        made (at-moves w.EXIT p ⋆ a-moves w.WHEN ⋆ expr-moves 5 depth e)
        (λ y. exit_when y.one y.two.two) (λ y os vs t. t) (λ y l. let e_like = l.two.two in λ i. exit_when tt (e_like i))
    stmt-moves depth (get p dev q r) =
        made (at-moves w.GET p ⋆ at-moves (named dev) q ⋆ ref-moves depth r)
        (λ y. get y.one dev y.two.one y.two.two) (λ y os vs t. t) (λ y l. let r_like = l.two.two in λ i. get tt dev tt (r_like i))
    stmt-moves depth (put p dev q e) =
        made (at-moves w.PUT p ⋆ at-moves (named dev) q ⋆ expr-moves 5 depth e)
        (λ y. put y.one dev y.two.one y.two.two) (λ y os vs t. t) (λ y l. let e_like = l.two.two in λ i. put tt dev tt (e_like i))
    stmt-moves depth (wait p cond q limit code) =
        made (at-moves w.WAIT p ⋆ at-moves (named cond) q ⋆ a-moves w.NO_LONGER_THAN ⋆ constant-moves limit ⋆ a-moves w.COLON ⋆ constant-moves code)
        (λ y. wait y.one cond y.two.one y.two.two.two.one y.two.two.two.two.two) (λ y os vs t. t) (λ y l. let limit_like = l.two.two.two.one in let code_like = l.two.two.two.two.two in λ i. wait tt cond tt (limit_like i) (code_like i))
    stmt-moves depth (signal p cond q) =
        made (at-moves w.SIGNAL p ⋆ at-moves (named cond) q)
        (λ y. signal y.one cond y.two) (λ y os vs t. t) (λ y l. refl)
    stmt-moves depth (broadcast p cond q) =
        made (at-moves w.BROADCAST p ⋆ at-moves (named cond) q)
        (λ y. broadcast y.one cond y.two) (λ y os vs t. t) (λ y l. refl)
    stmt-moves depth (except p code) =
        made (at-moves w.EXCEPT p ⋆ constant-moves code)
        (λ y. except y.one y.two) (λ y os vs t. t) (λ y l. let code_like = l.two in λ i. except tt (code_like i))
    stmt-moves depth (assert p e) =
        made (at-moves w.ASSERT p ⋆ expr-moves 5 depth e)
        (λ y. assert y.one y.two) (λ y os vs t. t) (λ y l. let e_like = l.two in λ i. assert tt (e_like i))

    pub stmts-moves : (depth : ℕ) (ss : Stmts P) → Moves {P = P} {Q = Q} {Y = Stmts Q} (AreStmts depth ss) (AreStmts depth) (λ h. bare_stmts h ≡ bare_stmts ss)
    stmts-moves depth no_stmts = made nothing-moves (λ y. no_stmts) (λ y os vs t. t) (λ y l. refl)
    stmts-moves depth (stmts s ss) =
        made (stmt-moves depth s ⋆ stmts-moves depth ss)
        (λ y. stmts y.one y.two) (λ y os vs t. t) (λ y l. let s_like = l.one in let ss_like = l.two in λ i. stmts (s_like i) (ss_like i))
