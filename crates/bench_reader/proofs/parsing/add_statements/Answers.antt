use Rattle.std.proofs.Common.{refl, arith}
use Rattle.std.proofs.lemmas.Result.{err_from_is_err_and}
use Rattle.bench_reader.specs.Names.{texts_in}
use Rattle.bench_reader.specs.Scanning.{tokens_from}
use Rattle.bench_reader.proofs.ReadLemmas.{nothing_read, refused_here, few_now, fewer_now, read_more}
use Rattle.bench_reader.proofs.parsing.add_statements.Goals as goal

pub statements-init : goal.statements-init
statements-init c = record { read = rw (c.requires.no_statements, c.requires.no_names) (nothing_read c.args.bytes.now); place = refl; within = omega arith }

pub returns-in_err-shape : goal.returns-in_err-shape
returns-in_err-shape c =
    let text = c.args.bytes.now in
    let p = err_from_is_err_and c.from_residual.result c.from_residual.ensures.1 in
    let f = refused_here text c.statements.place.byte c.statements.statements.items (texts_in c.statements.names) c.statements.invariant.read (tokens_from text c.next_lexeme-first.result) c.next_lexeme-first.ensures.tokens c.in_err-shape.field-0.0 c.in_err-shape.ensures.refused in
    rw (p.1, p.2) (record { ok = tt; refused = f })

pub statement-requires : goal.statement-requires
statement-requires c =
    let text = c.args.bytes.now in
    let first = tokens_from text c.next_lexeme-first.result in
    let s = c.in_ok-shape.ensures.ok in
    record {
      few = few_now text c.statements.place.byte c.statements.statements.items (texts_in c.statements.names) c.statements.invariant.read first c.next_lexeme-first.ensures.tokens (c.in_ok-shape.shape, c.in_ok-shape.behind) s c.requires.short;
      names = s.names;
      pins = s.right;
    }

pub statements-smaller : goal.statements-smaller
statements-smaller c =
    let text = c.args.bytes.now in
    fewer_now text c.statements.place.byte c.statements.statements.items (texts_in c.statements.names) c.statements.invariant.read (tokens_from text c.next_lexeme-first.result) c.next_lexeme-first.ensures.tokens (c.in_ok-shape.shape, c.in_ok-shape.behind) c.in_ok-shape.ensures.ok

pub statements-preserved : goal.statements-preserved
statements-preserved c =
    let text = c.args.bytes.now in
    let s = c.in_ok-shape.ensures.ok in
    record {
      read = rw c.in_ok-push.ensures.items (read_more text c.statements.place.byte c.statements.statements.items (texts_in c.statements.names) c.statements.invariant.read (tokens_from text c.next_lexeme-first.result) c.next_lexeme-first.ensures.tokens (c.in_ok-shape.shape, c.in_ok-shape.behind) s
          c.in_ok-next.next (texts_in c.statement.new.names) c.in_ok-next.ensures.names c.in_ok-next.ensures.statement);
      place = s.place;
      within = s.within;
    }
