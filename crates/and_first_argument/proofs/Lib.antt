mod AdditionsLemmas
mod KeysLemmas
mod ListsLemmas
mod TablesLemmas
