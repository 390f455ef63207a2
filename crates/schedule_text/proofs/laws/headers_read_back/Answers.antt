use Rattle.schedule_text.proofs.HeaderTexts.{header_of-text, text-header_of}
use Rattle.schedule_text.specs.HeaderLaws.{header_of-row}
use Rattle.schedule_text.proofs.laws.headers_read_back.Goals as goal

pub returns-clause-reads_back : goal.returns-clause-reads_back
returns-clause-reads_back c = header_of-text

pub returns-clause-one_spelling : goal.returns-clause-one_spelling
returns-clause-one_spelling c = λ line h e. (header_of-row line h e, text-header_of line h e)
