use Rattle.std.proofs.Common.{sym, ap, codes, arith}
use Rattle.std.proofs.lemmas.Slice.Eq.{text_from_reads}
use Rattle.schedule_text.specs.Words.{word_named}
use Rattle.schedule_text.proofs.words.word_named.Goals as goal

pub returns-in-deliver : goal.returns-in-deliver
returns-in-deliver c =
    ap word_named (sym (text_from_reads c.args.word.now (codes "deliver") (omega arith)
    (omega arith, (omega arith, (omega arith, (omega arith, (omega arith, (omega arith, (omega arith, tt)))))))))

pub returns-in-tick : goal.returns-in-tick
returns-in-tick c =
    ap word_named (sym (text_from_reads c.args.word.now (codes "tick") (omega arith)
    (omega arith, (omega arith, (omega arith, (omega arith, tt))))))

pub returns-in-lose : goal.returns-in-lose
returns-in-lose c =
    ap word_named (sym (text_from_reads c.args.word.now (codes "lose") (omega arith)
    (omega arith, (omega arith, (omega arith, (omega arith, tt))))))

pub returns-in-crash : goal.returns-in-crash
returns-in-crash c =
    ap word_named (sym (text_from_reads c.args.word.now (codes "crash") (omega arith)
    (omega arith, (omega arith, (omega arith, (omega arith, (omega arith, tt)))))))

pub returns-in-reboot : goal.returns-in-reboot
returns-in-reboot c =
    ap word_named (sym (text_from_reads c.args.word.now (codes "reboot") (omega arith)
    (omega arith, (omega arith, (omega arith, (omega arith, (omega arith, (omega arith, tt))))))))

pub returns-in-stop : goal.returns-in-stop
returns-in-stop c =
    ap word_named (sym (text_from_reads c.args.word.now (codes "stop") (omega arith)
    (omega arith, (omega arith, (omega arith, (omega arith, tt))))))
