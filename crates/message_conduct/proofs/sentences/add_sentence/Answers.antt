use Rattle.message_conduct.proofs.sentences.add_sentence.Goals as goal

pub returns-in-AsStatement : goal.returns-in-AsStatement
returns-in-AsStatement c = rw c.in-AsStatement.is c.add_as_statement.ensures

pub returns-in-NoValue : goal.returns-in-NoValue
returns-in-NoValue c = rw c.in-NoValue.is c.add_no_value.ensures

pub returns-in-OutsideLoop : goal.returns-in-OutsideLoop
returns-in-OutsideLoop c = rw c.in-OutsideLoop.is c.extend-in-OutsideLoop.ensures.ok

pub returns-in-OutDevice : goal.returns-in-OutDevice
returns-in-OutDevice c = rw c.in-OutDevice.is (rw c.as_bytes.ensures at c.add_among-in-OutDevice.ensures)

pub returns-in-InDevice : goal.returns-in-InDevice
returns-in-InDevice c = rw c.in-InDevice.is (rw c.as_bytes-in-InDevice.ensures at c.add_among-in-InDevice.ensures)
