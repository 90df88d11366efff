mod BlockLaws
mod RunLaws
mod BoardLaws
mod RecordLaws
